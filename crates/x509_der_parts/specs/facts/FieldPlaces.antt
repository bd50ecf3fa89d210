-- No other slice stands for a field: each stands in the slice that spells it.
use Rattle.std.proofs.Common.{◌≡◌, ℕ, ◌+◌, Bool, true, false, List, [], ◌++◌, length, ap, subst, sym, ◌∙◌, append-nil}
use Rattle.std.proofs.lemmas.List.{append_cancel_left}
use Rattle.x509_der_parts.specs.declared.choice.Choice.TheVariants.{First, Second}
use Rattle.x509_der_parts.specs.Element.{element, header}
use Rattle.x509_der_parts.specs.facts.Element.{element_one}
use Rattle.x509_der_parts.specs.Tally.{Tally}
use Rattle.x509_der_parts.specs.Shape.{Shape, Lawful, Follows}
use Rattle.x509_der_parts.specs.Fields.{FieldAt, Stands, Beside, Both}
use Rattle.x509_der_parts.specs.Tagged.{ContentAt}
use Rattle.x509_der_parts.specs.Structure.{structure}
use Rattle.x509_der_parts.specs.Choice.{choice}
use Rattle.x509_der_parts.specs.Join.{Apart}
use Rattle.x509_der_parts.specs.laws.Join.{follows_first}
use Rattle.x509_der_parts.specs.DefinedBy.{IsFamily, KeyApart}
use Rattle.x509_der_parts.specs.laws.DefinedBy.{begins_within}

-- a content
pub content_exactly : {V : Type 0} (t : ℕ) (s : Shape V) (v : V) (n : ℕ) (content slice string : List ℕ) (whole : Tally) → slice ≡ element t content → ContentAt t s v n slice string whole → Stands s v (n + header content) content string whole
content_exactly t s v n content slice string whole e c =
    let k = (element_one t t content c.content [] [] (ap (λ r. r ++ []) (sym e ∙ c.bytes))).content in
    let P : List ℕ → Type 0 = λ x. Stands s v (n + header x) x string whole in
    subst P (sym k) c.inner

module _ {V W : Type 0} (a : Shape V) (b : Shape W) (la : Lawful a) (lb : Lawful b) (begins : ℕ → Bool) (begin : (c : ℕ) → b.starts c ≡ true → begins c ≡ true) (apart : (c : ℕ) → begins c ≡ true → a.avoids c ≡ false) where
  ahead : (w : W) (p : List ℕ) (y : Tally) → b.spelled w p y → Follows a.avoids (p ++ [])
  ahead w p y i = follows_first a.avoids begins p [] apart (begins_within b.starts begins p begin (lb.begins w p y i)) tt

  both_exactly : (v : V) (w : W) (n : ℕ) (front back slice string : List ℕ) (y z whole : Tally) → a.spelled v front y → b.spelled w back z → slice ≡ front ++ back → Beside (λ m q. Stands a v m q string whole) (λ m q. Stands b w m q string whole) n slice → Both a b v w n front back string whole
  both_exactly v w n front back slice string y z whole i j e h =
      let e1 : front ++ (back ++ []) ≡ h.front ++ (h.back ++ []) = ap (λ x. front ++ x) (append-nil back) ∙ sym e ∙ h.bytes ∙ ap (λ x. h.front ++ x) (sym (append-nil h.back)) in
      let o = (la.one v v front h.front (back ++ []) (h.back ++ []) y h.first.field.tally i h.first.field.spelled e1 (ahead w back z j) (ahead w h.back h.second.field.tally h.second.field.spelled)).bytes in
      let k : back ≡ h.back = append_cancel_left front back h.back (sym e ∙ h.bytes ∙ ap (λ x. x ++ h.back) (sym o)) in
      let P : List ℕ → Type 0 = λ x. Stands a v n x string whole in
      let Q : List ℕ → Type 0 = λ x. Stands b w (n + length x) h.back string whole in
      let R : List ℕ → Type 0 = λ x. Stands b w (n + length front) x string whole in
      record { first = subst P (sym o) h.first; second = subst R (sym k) (subst Q (sym o) h.second) }

-- two fields of a structure
pub fields_exactly : {V W : Type 0} (a : Shape V) (b : Shape W) → Lawful a → Lawful b → Apart a b → (v : V) (w : W) (n : ℕ) (front back slice string : List ℕ) (y z whole : Tally) → a.spelled v front y → b.spelled w back z → slice ≡ front ++ back → Beside (λ m q. Stands a v m q string whole) (λ m q. Stands b w m q string whole) n slice → Both a b v w n front back string whole
fields_exactly a b la lb apart = both_exactly a b la lb b.starts (λ c h. h) apart

-- a key, and the value that it chooses
pub chosen_exactly : {K W : Type 0} (a : Shape K) (shapes : K → Shape W) (begins ends : ℕ → Bool) → Lawful a → IsFamily shapes begins ends → KeyApart a begins → (k : K) (w : W) (n : ℕ) (front back slice string : List ℕ) (y z whole : Tally) → a.spelled k front y → (shapes k).spelled w back z → slice ≡ front ++ back → Beside (λ m q. Stands a k m q string whole) (λ m q. Stands (shapes k) w m q string whole) n slice → Both a (shapes k) k w n front back string whole
chosen_exactly a shapes begins ends la family apart k = both_exactly a (shapes k) la (family.lawful k) begins (family.begin k) apart k

-- what fills the same slice is the same field
pub field_parts : {V W : Type 0} (view : W → V) (s : Shape V) (w : W) (n : ℕ) (slice string : List ℕ) (whole : Tally) → FieldAt (structure view s) w n slice string whole → FieldAt s (view w) n slice string whole
field_parts view s w n slice string whole f = record { tally = f.tally; spelled = f.spelled; part = f.part; strict = f.strict }

pub stands_parts : {V W : Type 0} (view : W → V) (s : Shape V) (w : W) (n : ℕ) (slice string : List ℕ) (whole : Tally) → Stands (structure view s) w n slice string whole → Stands s (view w) n slice string whole
stands_parts view s w n slice string whole i = record { field = field_parts view s w n slice string whole i.field; parts = i.parts }

pub stands_first : {V W : Type 0} (a : Shape V) (b : Shape W) (v : V) (n : ℕ) (slice string : List ℕ) (whole : Tally) → Stands (choice a b) (First v) n slice string whole → Stands a v n slice string whole
stands_first a b v n slice string whole i = let f = i.field in record { field = record { tally = f.tally; spelled = f.spelled; part = f.part; strict = f.strict }; parts = i.parts }

pub stands_second : {V W : Type 0} (a : Shape V) (b : Shape W) (w : W) (n : ℕ) (slice string : List ℕ) (whole : Tally) → Stands (choice a b) (Second w) n slice string whole → Stands b w n slice string whole
stands_second a b w n slice string whole i = let f = i.field in record { field = record { tally = f.tally; spelled = f.spelled; part = f.part; strict = f.strict }; parts = i.parts }

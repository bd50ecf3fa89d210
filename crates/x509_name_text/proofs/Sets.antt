-- Elements one behind another, and texts joined.
use Rattle.std.proofs.Common.{◌≡◌, ℕ, ◌<◌, Bool, true, List, [], ◌∷◌, ◌++◌, length, map, refl, sym, ap, ◌∙◌, arith, append-nil, length-append, subst}
use Rattle.x509_der.specs.Element.{element, is_tag}
use Rattle.x509_der.specs.facts.Element.{element_sized}
use Rattle.x509_report_parts.specs.Cursors.{IsNext, IsNone}
use Rattle.x509_report_parts.specs.declared.cursor.Cursor.{Cursor}
use Rattle.x509_report_parts.specs.declared.cursor.Element.{Element}
use Rattle.x509_name_text.specs.Texts.{AreElements, NameAttribute, SetSoFar, Writes, attribute_text, joined, set_text}
use Rattle.x509_name_text.proofs.Elements.{is_next}

pub shorter : (tag : ℕ) (content more octets : List ℕ) → octets ≡ element tag content ++ more → length more < length octets
shorter tag content more octets bytes = omega (arith, ap length bytes, length-append (element tag content) more, element_sized tag content)

pub none_left : {X : Type 0} (tag : ℕ) (Encodes : X → List ℕ → Type 0) (xs : List X) (octets : List ℕ) → AreElements tag Encodes xs octets → length octets ≡ 0 → xs ≡ []
none_left tag Encodes [] octets are empty = refl
none_left tag Encodes (x ∷ xs) octets are empty = absurd (omega (arith, shorter tag are.1.inner are.0 octets are.1.bytes, empty))

pub none_next : {X : Type 0} (tag : ℕ) (Encodes : X → List ℕ → Type 0) (xs : List X) (old new : Cursor) → is_tag tag ≡ true → AreElements tag Encodes xs old.rest.now → IsNone old new → xs ≡ []
none_next tag Encodes [] old new low are none = refl
none_next tag Encodes (x ∷ xs) old new low are none = absurd (none.none tag are.1.inner are.0 low are.1.bytes)

-- one of them comes next
pub record OneNext {X : Type 0} (tag : ℕ) (Encodes : X → List ℕ → Type 0) (xs : List X) (inner rest : List ℕ) : Type 0 where
  pub x : X
  pub others : List X
  pub are : xs ≡ x ∷ others
  pub encodes : Encodes x inner
  pub behind : AreElements tag Encodes others rest

pub one_next : {X : Type 0} (tag : ℕ) (Encodes : X → List ℕ → Type 0) (xs : List X) (old : Cursor) (e : Element) (new : Cursor) → AreElements tag Encodes xs old.rest.now → IsNext old e new → OneNext tag Encodes xs e.inside.rest.now new.rest.now
one_next tag Encodes [] old e new are found = absurd (omega (arith, shorter e.tag e.inside.rest.now new.rest.now old.rest.now found.first.bytes, ap length are))
one_next tag Encodes (x ∷ xs) old e new are found =
    let same = is_next old e new tag are.1.inner are.0 found are.1.bytes in
    record { x = x; others = xs; are = refl; encodes = subst (Encodes x) (sym same.content) are.1.encodes; behind = subst (AreElements tag Encodes xs) (sym same.rest) are.2 }

pub next_shorter : (old : Cursor) (e : Element) (new : Cursor) → IsNext old e new → length new.rest.now < length old.rest.now
next_shorter old e new found = shorter e.tag e.inside.rest.now new.rest.now old.rest.now found.first.bytes

-- where no attribute is left, the set is written
pub set_done : (shown : ℕ → Bool) (all : List NameAttribute) (at : ℕ) (old : List ℕ) (first : Bool) (rest : List ℕ) (end : ℕ) (new : List ℕ) (so_far : SetSoFar shown all at old first rest end new) → so_far.left ≡ [] → Writes (set_text shown all) at old end new
set_done shown all at old first rest end new so_far none =
    let is : so_far.done ≡ set_text shown all = sym (append-nil so_far.done) ∙ ap (λ xs. so_far.done ++ joined 43 first (map (attribute_text shown) xs)) (sym none) ∙ so_far.more in
    subst (λ t. Writes t at old end new) is so_far.written

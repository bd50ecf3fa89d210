-- One of two shapes, told apart by the first byte.
use Rattle.std.proofs.Common.{◌≡◌, ℕ, ◌+◌, ◌≤◌, ◌*◌, Bool, true, false, ◌||◌, ◌⊎◌, inl, inr, ⊎_elim, List, [], ◌∷◌, ◌++◌, length, refl, ap, sym, ◌∙◌, arith}
use Rattle.x509_der_parts.specs.declared.choice.Choice.{Choice}
use Rattle.x509_der_parts.specs.declared.choice.Choice.TheVariants.{First, Second}
use Rattle.x509_der_parts.specs.MarkOrder.{Placing, Deep}
use Rattle.x509_der_parts.specs.Element.{is_tag, IsRaw}
use Rattle.x509_der_parts.specs.Tally.{Tally}
use Rattle.x509_der_parts.specs.Fields.{Inner}
use Rattle.x509_der_parts.specs.Parts.{IsPart}
use Rattle.x509_der_parts.specs.Shape.{Shape, Lawful, IsElement, IsStrict, Same, Follows, Begins}
use Rattle.x509_der_parts.specs.laws.Join.{follows_left, follows_right}
use Rattle.x509_der_parts.specs.laws.Optional.{Full}
use Rattle.x509_der_parts.specs.laws.NotEmpty.{full}
use Rattle.x509_der_parts.specs.laws.Structure.{structure_lawful, structure_element}
use Rattle.x509_der_parts.specs.Choice.{Begun, Disjoint, Either, IfSide, SideAt, by_side, either, choice, sides}

pub begun_more : (f : ℕ → Bool) (p q r : List ℕ) → r ≡ p ++ q → 1 ≤ length p → Begins f p → Begun f r
begun_more f [] q r e n b = absurd (omega arith)
begun_more f (c ∷ p) q r e n b = rw e b

pub not_both_begun : (f g : ℕ → Bool) (r : List ℕ) → ((c : ℕ) → f c ≡ true → g c ≡ false) → Begun f r → Begun g r → ⊥
not_both_begun f g [] d a b = a
not_both_begun f g (c ∷ r) d a b = let h = d c a in cc

left_true : (x y : Bool) → x ≡ true → (x || y) ≡ true
left_true true y e = refl
left_true false y e = cc

right_true : (x y : Bool) → y ≡ true → (x || y) ≡ true
right_true true y e = refl
right_true false y e = e

begins_left : (f g : ℕ → Bool) (p : List ℕ) → Begins f p → Begins (λ c. f c || g c) p
begins_left f g [] b = tt
begins_left f g (c ∷ p) b = left_true (f c) (g c) b

begins_right : (f g : ℕ → Bool) (p : List ℕ) → Begins g p → Begins (λ c. f c || g c) p
begins_right f g [] b = tt
begins_right f g (c ∷ p) b = right_true (f c) (g c) b

module _ {V W : Type 0} (a : Shape V) (b : Shape W) (la : Lawful a) (lb : Lawful b) (fa : Full a) (fb : Full b) (apart : Disjoint a b) where
  crossed : (v : V) (w : W) (p q r u : List ℕ) (y z : Tally) → a.spelled v p y → b.spelled w q z → p ++ r ≡ q ++ u → ⊥
  crossed v w p q r u y z i j e =
      not_both_begun a.starts b.starts (q ++ u) apart (begun_more a.starts p r (q ++ u) (sym e) (fa v p y i) (la.begins v p y i)) (begun_more b.starts q u (q ++ u) refl (fb w q z j) (lb.begins w q z j))

  either_one : (x x2 : V ⊎ W) (p q r u : List ℕ) (y z : Tally) → Either a b x p y → Either a b x2 q z → p ++ r ≡ q ++ u → Follows (λ c. a.avoids c || b.avoids c) r → Follows (λ c. a.avoids c || b.avoids c) u → Same x x2 p q y z
  either_one (inl v) (inl v2) p q r u y z i j e f g = let o = la.one v v2 p q r u y z i j e (follows_left a.avoids b.avoids r f) (follows_left a.avoids b.avoids u g) in record { value = ap inl o.value; bytes = o.bytes; tally = o.tally }
  either_one (inl v) (inr w) p q r u y z i j e f g = absurd (crossed v w p q r u y z i j e)
  either_one (inr w) (inl v) p q r u y z i j e f g = absurd (crossed v w q p u r z y j i (sym e))
  either_one (inr w) (inr w2) p q r u y z i j e f g = let o = lb.one w w2 p q r u y z i j e (follows_right a.avoids b.avoids r f) (follows_right a.avoids b.avoids u g) in record { value = ap inr o.value; bytes = o.bytes; tally = o.tally }

  either_written : (x : V ⊎ W) → IfSide a.valid b.valid x → IfSide a.readable b.readable x → IsStrict (either a b) x
  either_written (inl v) d r = let w = la.written v d r in record { headers = w.headers; spelled = w.spelled }
  either_written (inr w) d r = let k = lb.written w d r in record { headers = k.headers; spelled = k.spelled }

  either_clean : (x : V ⊎ W) (p : List ℕ) (y : Tally) → Either a b x p y → y.marks ≡ [] → p ≡ by_side a.strict b.strict x
  either_clean (inl v) p y i e = la.clean v p y i e
  either_clean (inr w) p y i e = lb.clean w p y i e

  either_valid : (x : V ⊎ W) (p : List ℕ) (y : Tally) → Either a b x p y → IfSide a.valid b.valid x
  either_valid (inl v) p y i = la.valid v p y i
  either_valid (inr w) p y i = lb.valid w p y i

  either_read : (x : V ⊎ W) (p : List ℕ) (y : Tally) → Either a b x p y → IfSide a.readable b.readable x
  either_read (inl v) p y i = la.read v p y i
  either_read (inr w) p y i = lb.read w p y i

  either_begins : (x : V ⊎ W) (p : List ℕ) (y : Tally) → Either a b x p y → Begins (λ c. a.starts c || b.starts c) p
  either_begins (inl v) p y i = begins_left a.starts b.starts p (la.begins v p y i)
  either_begins (inr w) p y i = begins_right a.starts b.starts p (lb.begins w p y i)

  either_cost : (x : V ⊎ W) (p : List ℕ) (y : Tally) → Either a b x p y → 2 * y.headers ≤ length p
  either_cost (inl v) p y i = la.cost v p y i
  either_cost (inr w) p y i = lb.cost w p y i

  either_few : (x : V ⊎ W) (p : List ℕ) (y : Tally) → Either a b x p y → length y.marks ≤ y.headers
  either_few (inl v) p y i = la.few v p y i
  either_few (inr w) p y i = lb.few w p y i

  either_places : (x : V ⊎ W) (p : List ℕ) (y : Tally) → Either a b x p y → Placing (length p) y.marks
  either_places (inl v) p y i = la.places v p y i
  either_places (inr w) p y i = lb.places w p y i

  either_parts : (x : V ⊎ W) (p : List ℕ) (y : Tally) → Either a b x p y → (n : ℕ) (string : List ℕ) (whole : Tally) → IsPart string whole n p y → SideAt a b x n p string whole
  either_parts (inl v) p y i n string whole h = la.parts v p y i n string whole h
  either_parts (inr w) p y i n string whole h = lb.parts w p y i n string whole h

  pub either_lawful : Lawful (either a b)
  either_lawful = record { one = either_one; written = either_written; clean = either_clean; valid = either_valid; read = either_read; begins = either_begins; cost = either_cost; few = either_few; places = either_places; parts = either_parts }

module _ {V W : Type 0} (a : Shape V) (b : Shape W) (ea : IsElement a) (eb : IsElement b) where
  element_spelled : (x : V ⊎ W) (p : List ℕ) (y : Tally) → Either a b x p y → IsRaw p
  element_spelled (inl v) p y i = ea.one v p y i
  element_spelled (inr w) p y i = eb.one w p y i

  element_strict : (x : V ⊎ W) → IfSide a.valid b.valid x → IsRaw (by_side a.strict b.strict x)
  element_strict (inl v) d = ea.strict v d
  element_strict (inr w) d = eb.strict w d

  -- a byte that begins one of the two begins one
  which : (f g : Bool) → (f || g) ≡ true → (f ≡ true) ⊎ (g ≡ true)
  which true g h = inl refl
  which false g h = inr h

  element_tags : (c : ℕ) → (a.starts c || b.starts c) ≡ true → is_tag c ≡ true
  element_tags c h = ⊎_elim (ea.tags c) (eb.tags c) (which (a.starts c) (b.starts c) h)

  element_owes : (c : ℕ) (rest : List ℕ) → (a.starts c || b.starts c) ≡ true → (either a b).min_headers (c ∷ rest) 1
  element_owes c rest h = elim (which (a.starts c) (b.starts c) h) [ inl k ↦ inr (inl (k, ea.min_headers c rest k)) | inr k ↦ inr (inr (k, eb.min_headers c rest k)) ]

  pub either_element : IsElement (either a b)
  either_element = record { one = element_spelled; strict = element_strict; free = λ c. rw (ea.free c) (eb.free c); tags = element_tags; min_headers = element_owes }

-- two ways to name the strict spelling agree on both sides
pub agree_sides : {V W : Type 0} (a : Shape V) (b : Shape W) (f : V → List ℕ) (g : W → List ℕ) → ((v : V) → a.strict v ≡ f v) → ((w : W) → b.strict w ≡ g w) → (x : V ⊎ W) → by_side a.strict b.strict x ≡ by_side f g x
agree_sides a b f g h k (inl v) = h v
agree_sides a b f g h k (inr w) = k w

abbrev back : {V W : Type 0} → V ⊎ W → Choice V W
back (inl v) = First v
back (inr w) = Second w

back_sides : {V W : Type 0} (x : Choice V W) → back (sides x) ≡ x
back_sides (First v) = refl
back_sides (Second w) = refl

pub same_sides : {V W : Type 0} (x y : Choice V W) → sides x ≡ sides y → x ≡ y
same_sides x y e = sym (back_sides x) ∙ ap back e ∙ back_sides y

pub choice_lawful : {V W : Type 0} (a : Shape V) (b : Shape W) → Lawful a → Lawful b → IsElement a → IsElement b → Disjoint a b → Lawful (choice a b)
choice_lawful a b la lb ea eb d = structure_lawful sides (either a b) same_sides (either_lawful a b la lb (full a ea) (full b eb) d)

pub choice_element : {V W : Type 0} (a : Shape V) (b : Shape W) → IsElement a → IsElement b → IsElement (choice a b)
choice_element a b ea eb = structure_element sides (either a b) (either_element a b ea eb)

-- what deviations over the whole ask of a choice, where they ask it of both sides

-- a mark inside begins behind the first byte
pub choice_deep : {V W : Type 0} (a : Shape V) (b : Shape W) → ((v : V) (p : List ℕ) (y : Tally) → a.spelled v p y → (1 ≤ length p) × Deep y.marks) → ((w : W) (p : List ℕ) (y : Tally) → b.spelled w p y → (1 ≤ length p) × Deep y.marks) → (x : Choice V W) (p : List ℕ) (y : Tally) → (choice a b).spelled x p y → (1 ≤ length p) × Deep y.marks
choice_deep a b h k (First v) p y i = h v p y i
choice_deep a b h k (Second w) p y i = k w p y i

-- a header is to spare for a mark over the whole
pub choice_spare : {V W : Type 0} (a : Shape V) (b : Shape W) → ((v : V) (p : List ℕ) (y : Tally) → a.spelled v p y → 1 + length y.marks ≤ y.headers) → ((w : W) (p : List ℕ) (y : Tally) → b.spelled w p y → 1 + length y.marks ≤ y.headers) → (x : Choice V W) (p : List ℕ) (y : Tally) → (choice a b).spelled x p y → 1 + length y.marks ≤ y.headers
choice_spare a b h k (First v) p y i = h v p y i
choice_spare a b h k (Second w) p y i = k w p y i

-- the parts of both sides stand behind the first byte
pub choice_inner : {V W : Type 0} (a : Shape V) (b : Shape W) → Inner a → Inner b → Inner (choice a b)
choice_inner a b h k (First v) p y i = h v p y i
choice_inner a b h k (Second w) p y i = k w p y i

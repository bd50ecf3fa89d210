-- Alternatives of a choice, told apart by their tags.
use Rattle.std.proofs.Common.{◌≡◌, refl, ap, ◌∙◌, ℕ, ◌<◌, Bool, true, false, ◌||◌, ◌&&◌, not, eqb, List, [], ◌∷◌, ◌++◌}
use Rattle.std.proofs.lemmas.Bool.{eqb-true}
use Rattle.x509_der.specs.Reading.{is_tag}
use Rattle.x509_der.specs.Shape.{Shape, Lawful, IsElement}
use Rattle.x509_der.specs.Tagged.{tagged}
use Rattle.x509_der.specs.laws.Tagged.{tagged_lawful, tagged_element}
use Rattle.x509_der.specs.Choice.{choice, Disjoint}
use Rattle.x509_der.specs.laws.Choice.{choice_lawful, choice_element}
use Rattle.x509_der.specs.laws.Meaning.{Markable, tagged_markable, choice_markable}
use Rattle.x509_der.specs.Alternatives.{among}

-- none of the first is one of the others
abbrev pub apart : List ℕ → List ℕ → Bool
apart [] us = true
apart (t ∷ ts) us = not (among us t) && apart ts us

either_true : (x y z : Bool) → (x ≡ true → z ≡ true) → (y ≡ true → z ≡ true) → (x || y) ≡ true → z ≡ true
either_true true y z f g e = f refl
either_true false y z f g e = g e

either_false : (x y z : Bool) → (x ≡ true → z ≡ false) → (y ≡ true → z ≡ false) → (x || y) ≡ true → z ≡ false
either_false true y z f g e = f refl
either_false false y z f g e = g e

-- what would make z true, which it is not
no_longer : (x z : Bool) → (x ≡ true → z ≡ true) → z ≡ false → x ≡ false
no_longer true z f e = let h = f refl in cc
no_longer false z f e = refl

left_true : (x y : Bool) → x ≡ true → (x || y) ≡ true
left_true true y e = refl
left_true false y e = cc

right_true : (x y : Bool) → y ≡ true → (x || y) ≡ true
right_true true y e = refl
right_true false y e = e

both_true : (x y : Bool) → (not x && y) ≡ true → (x ≡ false) × (y ≡ true)
both_true true y e = cc
both_true false y e = (refl, e)

among_left : (ts us : List ℕ) (c : ℕ) → among ts c ≡ true → among (ts ++ us) c ≡ true
among_left [] us c e = cc
among_left (t ∷ ts) us c e = either_true (eqb c t) (among ts c) (eqb c t || among (ts ++ us) c) (left_true (eqb c t) (among (ts ++ us) c)) (λ h. right_true (eqb c t) (among (ts ++ us) c) (among_left ts us c h)) e

among_right : (ts us : List ℕ) (c : ℕ) → among us c ≡ true → among (ts ++ us) c ≡ true
among_right [] us c e = e
among_right (t ∷ ts) us c e = right_true (eqb c t) (among (ts ++ us) c) (among_right ts us c e)

not_among : (ts us : List ℕ) (c : ℕ) → apart ts us ≡ true → among ts c ≡ true → among us c ≡ false
not_among [] us c d e = cc
not_among (t ∷ ts) us c d e =
    let k = both_true (among us t) (apart ts us) d in
    either_false (eqb c t) (among ts c) (among us c) (λ h. ap (among us) (eqb-true c t h) ∙ k.0) (not_among ts us c k.1) e

-- what is not so of one byte
pub byte_apart : (t : ℕ) (f : ℕ → Bool) → f t ≡ false → (c : ℕ) → eqb c t ≡ true → f c ≡ false
byte_apart t f h c e = ap f (eqb-true c t e) ∙ h

-- nor of either of two
pub either_apart : (f g h : ℕ → Bool) → ((c : ℕ) → f c ≡ true → h c ≡ false) → ((c : ℕ) → g c ≡ true → h c ≡ false) → (c : ℕ) → (f c || g c) ≡ true → h c ≡ false
either_apart f g h i j c = either_false (f c) (g c) (h c) (i c) (j c)

-- an alternative of a choice, or several, and the tags that spellings begin with
pub record Alternative {V : Type 0} (s : Shape V) (tags : List ℕ) : Type 0 where
  pub lawful : Lawful s
  pub element : IsElement s
  pub markable : Markable s
  pub begins : (c : ℕ) → s.starts c ≡ true → among tags c ≡ true

-- the element with one tag
pub under : {V : Type 0} (t : ℕ) (s : Shape V) → Lawful s → is_tag t ≡ true → t < 256 → Alternative (tagged t s) (t ∷ [])
under t s l fits byte = record { lawful = tagged_lawful t s l; element = tagged_element t s fits byte; markable = tagged_markable t s l; begins = λ c h. left_true (eqb c t) false h }

pub tags_apart : {V W : Type 0} (a : Shape V) (b : Shape W) (ts us : List ℕ) → Alternative a ts → Alternative b us → apart ts us ≡ true → Disjoint a b
tags_apart a b ts us f g d c h = no_longer (b.starts c) (among us c) (g.begins c) (not_among ts us c d (f.begins c h))

-- one of two alternatives with different tags
pub either_of : {V W : Type 0} {a : Shape V} {b : Shape W} {ts us : List ℕ} → Alternative a ts → Alternative b us → apart ts us ≡ true → Alternative (choice a b) (ts ++ us)
either_of {V} {W} {a} {b} {ts} {us} f g d = record {
  lawful = choice_lawful a b f.lawful g.lawful f.element g.element (tags_apart a b ts us f g d);
  element = choice_element a b f.element g.element;
  markable = choice_markable a b f.markable g.markable;
  begins = λ c. either_true (a.starts c) (b.starts c) (among (ts ++ us) c) (λ h. among_left ts us c (f.begins c h)) (λ h. among_right ts us c (g.begins c h));
}

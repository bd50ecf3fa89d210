-- What is read by one shape and by another, part by part.
use Rattle.std.proofs.Common.{◌≡◌, ℕ, zero, suc, ◌<◌, List, [], ◌∷◌, ◌++◌, length, true, Option, Some, None, refl, ap, arith, subst}
use Rattle.x509_der.specs.Element.{AreBytes, IsRaw, element, digits, is_tag}
use Rattle.x509_der.specs.Items.{Items, items}
use Rattle.x509_der.specs.FirstField.{both_fields}
use Rattle.x509_der.specs.Optional.{optional}
use Rattle.x509_der.specs.RawElement.{raws, one_header}
use Rattle.x509_der.specs.Shape.{Shape}
use Rattle.x509_der.specs.Tagged.{IsTagged, tagged}
use Rattle.x509_der.specs.Tally.{Tally, none, joined}
use Rattle.x509_outline_laws.specs.Frames.{Reads, Pairs}

-- bytes in front, and bytes behind
pub bytes_front : (p q : List ℕ) → AreBytes (p ++ q) → AreBytes p
bytes_front [] q h k = omega arith
bytes_front (b ∷ p) q h zero = h 0
bytes_front (b ∷ p) q h (suc k) = bytes_front p q (λ i. h (suc i)) k

pub bytes_behind : (p q : List ℕ) → AreBytes (p ++ q) → AreBytes q
bytes_behind [] q h = h
bytes_behind (b ∷ p) q h = bytes_behind p q (λ i. h (suc i))

bytes_element : (t : ℕ) (c : List ℕ) → AreBytes (element t c) → AreBytes c
unfolding element
bytes_element t c h = bytes_behind (digits (length c)) c (λ i. h (suc i))

pub bytes_content : (t : ℕ) (c p : List ℕ) → p ≡ element t c → AreBytes p → AreBytes c
bytes_content t c p e h = bytes_element t c (subst AreBytes e h)

pub bytes_first : (p q string : List ℕ) → string ≡ p ++ q → AreBytes string → AreBytes p
bytes_first p q string e h = bytes_front p q (subst AreBytes e h)

pub bytes_second : (p q string : List ℕ) → string ≡ p ++ q → AreBytes string → AreBytes q
bytes_second p q string e h = bytes_behind p q (subst AreBytes e h)

-- two fields, one behind the other
pub both : {V W : Type 0} (a : Shape V) (b : Shape W) (v : V) (w : W) (p q string : List ℕ) → string ≡ p ++ q → Reads a v p → Reads b w q → Reads (both_fields a b) (v, w) string
both a b v w p q string e f g = record {
  tally = joined (length p) f.tally g.tally;
  spelled = record { front = p; back = q; first = f.tally; second = g.tally; fore = f.spelled; aft = g.spelled; bytes = e; tally = refl };
}

-- a content in its element
pub within : {V : Type 0} (t : ℕ) (s : Shape V) (v : V) (content string : List ℕ) → string ≡ element t content → Reads s v content → Reads (tagged t s) v string
within t s v content string e f = record {
  tally = _;
  spelled = record { content = content; part = f.tally; spelled = f.spelled; bytes = e; tally = refl };
}

-- a field that is there, and one that isn't
pub there : {V : Type 0} (s : Shape V) (v : V) (string : List ℕ) → Reads s v string → Reads (optional s) (Some v) string
there s v string f = record { tally = f.tally; spelled = f.spelled }

pub absent : {V : Type 0} (s : Shape V) (string : List ℕ) → string ≡ [] → Reads (optional s) None string
absent s string e = record { tally = none; spelled = (e, refl) }

-- an element as it is
pub as_it_is : (p : List ℕ) → AreBytes p → IsRaw p → Reads raws p p
as_it_is p h r = record { tally = one_header; spelled = record { is = r; each = h; bytes = refl; tally = refl } }

-- what is spelled under a tag is an element
pub under_tag : {V : Type 0} (t : ℕ) (s : Shape V) (v : V) (p : List ℕ) (y : Tally) → is_tag t ≡ true → t < 256 → IsTagged t s v p y → IsRaw p
under_tag t s v p y f b a = record { tag = t; content = a.content; fits = f; byte = b; bytes = a.bytes }

-- what a value is read as, too
pub record Carried {V W : Type 0} (t : Shape W) (R : V → W → Type 0) (v : V) (p : List ℕ) : Type 0 where
  pub value : W
  pub reads : Reads t value p
  pub related : R v value

-- every value of the one shape is read as one of the other
abbrev pub Carries : {V W : Type 0} → Shape V → Shape W → (V → W → Type 0) → Type 0
Carries {V} s t R = (v : V) (p : List ℕ) (y : Tally) → AreBytes p → s.spelled v p y → Carried t R v p

module _ {V W : Type 0} (s : Shape V) (t : Shape W) (R : V → W → Type 0) (c : Carries s t R) where
  pub tagged_carries : (n : ℕ) → Carries (tagged n s) (tagged n t) R
  tagged_carries n v p y h a =
      let k = c v a.content a.part (bytes_content n a.content p a.bytes h) a.spelled in
      record { value = k.value; reads = within n t k.value a.content p a.bytes k.reads; related = k.related }

  items_carry : (vs : List V) (p : List ℕ) (y : Tally) → AreBytes p → Items s vs p y → Carried (items t) (Pairs R) vs p
  items_carry [] p y h a = record { value = []; reads = record { tally = none; spelled = (a.0, refl) }; related = tt }
  items_carry (v ∷ vs) p y h a =
      let k = c v a.front a.first (bytes_first a.front a.back p a.bytes h) a.fore in
      let m = items_carry vs a.back a.second (bytes_second a.front a.back p a.bytes h) a.aft in
      record {
        value = k.value ∷ m.value;
        reads = record {
          tally = joined (length a.front) k.reads.tally m.reads.tally;
          spelled = record { front = a.front; back = a.back; first = k.reads.tally; second = m.reads.tally; fore = k.reads.spelled; aft = m.reads.spelled; bytes = a.bytes; tally = refl };
        };
        related = (k.related, m.related);
      }

  pub items_carries : Carries (items s) (items t) (Pairs R)
  items_carries vs p y h a = items_carry vs p y h a

-- both are there, and belong together; or neither is
abbrev pub BothIf : {V W : Type 0} → (V → W → Type 0) → Option V → Option W → Type 0
BothIf R None None = Unit {0}
BothIf R (Some v) (Some w) = R v w
BothIf R v w = ⊥

pub optional_carries : {V W : Type 0} (s : Shape V) (t : Shape W) (R : V → W → Type 0) → Carries s t R → Carries (optional s) (optional t) (BothIf R)
optional_carries s t R c None p y h a = record { value = None; reads = absent t p a.0; related = tt }
optional_carries s t R c (Some v) p y h a =
    let k = c v p y h a in
    record { value = Some k.value; reads = there t k.value p k.reads; related = k.related }

-- what a value that was found is
value_or : {V K : Type 0} → V → Option (V × K) → V
value_or d None = d
value_or d (Some m) = m.0

pub found_value : {V K : Type 0} (v w : V) (k l : K) → ◌≡◌ {A = Option (V × K)} (Some (v, k)) (Some (w, l)) → v ≡ w
unfolding value_or
found_value v w k l e = ap (value_or v) e

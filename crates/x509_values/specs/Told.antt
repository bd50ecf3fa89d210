-- What is told of a list's items, which stand one behind another, and of what is written to the front of a slice.
use Rattle.std.specs.Prelude.{◌≡◌, ℕ, ◌+◌, List, [], ◌∷◌, ◌++◌, length, Option, None, ◌⊎◌, IsSomeAnd}
use Rattle.x509_der.specs.Element.{element, header}
use Rattle.x509_der.specs.Items.{ItemsAt}
use Rattle.x509_der.specs.Shape.{Shape}
use Rattle.x509_der.specs.Tally.{Tally}
use Rattle.x509_fields.specs.declared.span.Span.{Span}

-- the slice, which stands behind so many bytes, is one element with the tag, and the span is that of what stands in it
pub record HeldIn (tag : ℕ) (slice : List ℕ) (n : ℕ) (span : Span) : Type 0 where
  pub content : List ℕ
  pub bytes : slice ≡ element tag content
  pub start : span.start ≡ n + header content
  pub end : span.end ≡ n + length slice

-- each item is told, in order and none left out, where it stands
abbrev pub EachTold : {V P : Type 0} (s : Shape V) (string : List ℕ) (whole : Tally) → (V → ℕ → List ℕ → P → Type 0) → (vs : List V) (n : ℕ) (slice : List ℕ) → ItemsAt s string whole vs n slice → List P → Type 0
EachTold s string whole Tells [] n slice h places = places ≡ []
EachTold s string whole Tells (v ∷ vs) n slice h [] = ⊥
EachTold s string whole Tells (v ∷ vs) n slice h (at ∷ more) = Tells v n h.front at × EachTold s string whole Tells vs (n + length h.front) h.back h.second more

-- the first item of a kind is told, where it stands, or that there is none
abbrev pub FirstTold : {V P : Type 0} (s : Shape V) (string : List ℕ) (whole : Tally) → (V → Type 0) → (V → ℕ → List ℕ → P → Type 0) → (vs : List V) (n : ℕ) (slice : List ℕ) → ItemsAt s string whole vs n slice → Option P → Type 0
FirstTold s string whole Is Tells [] n slice h r = r ≡ None
FirstTold s string whole Is Tells (v ∷ vs) n slice h r =
    (Is v × IsSomeAnd r (Tells v n h.front)) ⊎ ((Is v → ⊥) × FirstTold s string whole Is Tells vs (n + length h.front) h.back h.second r)

-- some are told, and behind them others
pub record Parted {P : Type 0} (First More : List P → Type 0) (places : List P) : Type 0 where
  pub front : List P
  pub back : List P
  pub parts : places ≡ front ++ back
  pub first : First front
  pub more : More back

-- a slice whose front is filled, as far as there is room
abbrev pub filled : {X : Type 0} → List X → List X → List X
filled [] old = old
filled (x ∷ xs) [] = []
filled (x ∷ xs) (y ∷ old) = x ∷ filled xs old

-- so many were told, and as many are in front of the slice as there is room for
pub record Fills {P : Type 0} (Told : List P → Type 0) (old new : List P) (number : ℕ) : Type 0 where
  pub places : List P
  pub told : Told places
  pub written : new ≡ filled places old
  pub count : number ≡ length places

-- A walk over elements that stand one behind another, each with its tag and what stands in it (X.690, 8.1).
use Rattle.std.specs.Prelude.{◌≡◌, true, ℕ, ◌+◌, ◌<◌, List, ◌++◌, length, Option, Some, None}
use Rattle.x509_der.specs.Element.{element, header, is_tag}
use Rattle.x509_der.specs.Reading.{NoFirst}
use Rattle.x509_fields.specs.Slices.{Covers}
use Rattle.x509_fields.specs.declared.span.Span.{Span}
use Rattle.x509_values.specs.Rests.{Rest}
use Rattle.x509_values.specs.declared.elements.Element.{Element}

-- the bytes that are left
abbrev pub span_of : Rest → Span
span_of r = record { start = r.at; end = r.at + length r.rest }

-- an element stands in front, and the walk goes past it
pub record Passes (old new : Rest) (e : Element) : Type 0 where
  pub fits : is_tag e.tag ≡ true
  pub byte : e.tag < 256
  pub bytes : old.rest ≡ element e.tag e.inside.rest ++ new.rest
  pub start : e.start ≡ old.at
  pub inside : e.inside.at ≡ old.at + header e.inside.rest
  pub end : new.at ≡ e.inside.at + length e.inside.rest

-- or none does, and it stays
abbrev pub Takes : Rest → Rest → Option Element → Type 0
Takes old new (Some e) = Passes old new e
Takes old new None = NoFirst old.rest × (new ≡ old)

-- the element in front, with its tag and its content, and what is left behind it
pub record Found (t : ℕ) (c q : List ℕ) (old new : Rest) (e : Element) : Type 0 where
  pub tag : e.tag ≡ t
  pub content : e.inside.rest ≡ c
  pub at : e.inside.at ≡ old.at + header c
  pub rest : new.rest ≡ q
  pub behind : new.at ≡ old.at + (header c + length c)

abbrev pub Finds : Rest → Rest → Element → Type 0
Finds old new e = (t : ℕ) (c q : List ℕ) → is_tag t ≡ true → old.rest ≡ element t c ++ q → Found t c q old new e

-- the bytes in a span of an input
abbrev pub Over : List ℕ → Span → Rest → Type 0
Over string span r = (slice : List ℕ) → Covers string span.start span.end slice → (r.rest ≡ slice) × (r.at ≡ span.start)

-- what stands in the element that a span of an input encodes
abbrev pub IsInside : List ℕ → Span → Span → Type 0
IsInside string span at =
    (t : ℕ) (c : List ℕ) → is_tag t ≡ true → Covers string span.start span.end (element t c) → (at.start ≡ span.start + header c) × (at.end ≡ span.end)

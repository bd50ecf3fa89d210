-- Values of fields that stand in a span, and what certificates hold.
use Rattle.std.specs.Prelude.{◌≡◌, ℕ, List}
use Rattle.x509_der.specs.Calls.{IsWhole}
use Rattle.x509_der.specs.Shape.{Shape}
use Rattle.x509_der.specs.Tally.{Tally}
use Rattle.x509_fields.specs.Spans.{FieldIn}
use Rattle.x509_fields.specs.declared.span.Span.{Span}

-- whatever value of the shape the span of the string encodes, it is this one
abbrev pub IsValueIn : {V : Type 0} → Shape V → List ℕ → Span → V → Type 0
IsValueIn {V} s string span r = (v : V) (whole : Tally) → FieldIn s v span string whole → r ≡ v

-- the span of the string encodes no value of the shape
abbrev pub NoValueIn : {V : Type 0} → Shape V → List ℕ → Span → Type 0
NoValueIn {V} s string span = (v : V) (whole : Tally) → FieldIn s v span string whole → ⊥

-- the string encodes a value of the shape, which has this
pub record Holds {V W : Type 0} (s : Shape V) (of : V → W) (string : List ℕ) (r : W) : Type 0 where
  pub value : V
  pub tally : Tally
  pub whole : IsWhole s string value tally
  pub is : r ≡ of value

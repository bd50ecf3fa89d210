-- Where fields stand in an input.
use Rattle.std.specs.Prelude.{◌≡◌, ℕ, ◌+◌, ◌≤◌, List, [], ◌∷◌, length, Option, Some, None}
use Rattle.x509_der.specs.Element.{element, header}
use Rattle.x509_der.specs.Fields.{FieldAt}
use Rattle.x509_der.specs.Shape.{Shape}
use Rattle.x509_der.specs.Tally.{Tally}
use Rattle.x509_fields.specs.Slices.{Covers}
use Rattle.x509_fields.specs.declared.span.Span.{Span}

-- the field stands where the span says: there is the slice that encodes it, and the deviations within the slice are the field's own
pub record FieldIn {V : Type 0} (s : Shape V) (v : V) (span : Span) (string : List ℕ) (whole : Tally) : Type 0 where
  pub slice : List ℕ
  pub at : FieldAt s v span.start slice string whole
  pub end : span.end ≡ span.start + length slice

-- so it does where there is one, and else there is no span
abbrev pub OptionalIn : {V : Type 0} → Shape V → Option V → Option Span → List ℕ → Tally → Type 0
OptionalIn s None None string whole = Unit {0}
OptionalIn s (Some v) (Some span) string whole = FieldIn s v span string whole
OptionalIn s None (Some span) string whole = ⊥
OptionalIn s (Some v) None string whole = ⊥

-- from one place to another: each field begins where the one before it ends, and one that isn't encoded takes nothing
abbrev pub Chain : ℕ → List (Option Span) → ℕ → Type 0
Chain n [] m = n ≡ m
Chain n (None ∷ more) m = Chain n more m
Chain n (Some span ∷ more) m = (span.start ≡ n) × Chain span.end more m

-- a SEQUENCE stands where the span says, and its content is these fields, one behind another (X.690, 8.9.2)
pub record Fill (string : List ℕ) (span : Span) (fields : List (Option Span)) : Type 0 where
  pub content : List ℕ
  pub sequence : Covers string span.start span.end (element 48 content)
  pub chain : Chain (span.start + header content) fields span.end

-- all bytes of an input
abbrev pub all_of : List ℕ → Span
all_of string = record { start = 0; end = length string }

-- a span of bytes of an input so long
pub record LiesIn (span : Span) (size : ℕ) : Type 0 where
  pub order : span.start ≤ span.end
  pub within : span.end ≤ size

abbrev pub LiesInIf : Option Span → ℕ → Type 0
LiesInIf None size = Unit {0}
LiesInIf (Some span) size = LiesIn span size

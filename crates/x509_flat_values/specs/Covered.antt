-- Spans of an input, and the bytes that they cover.
use Rattle.std.specs.Prelude.{◌≡◌, ℕ, ◌+◌, List, length, Option, Some, None}
use Rattle.x509_fields.specs.Slices.{Covers}
use Rattle.x509_fields.specs.declared.span.Span.{Span}
use Rattle.x509_values.specs.Rests.{Rest}

-- that of what isn't there is 0..0
abbrev pub no_span : Span
no_span = record { start = 0; end = 0 }

-- the span covers these bytes of the string
abbrev pub CoversAll : List ℕ → Span → List ℕ → Type 0
CoversAll string span bytes = Covers string span.start span.end bytes

-- where there are some
abbrev pub CoversIf : List ℕ → Span → Option (List ℕ) → Type 0
CoversIf string span (Some bytes) = CoversAll string span bytes
CoversIf string span None = span ≡ no_span

-- what is left of a walk stands in the string where the walk is
abbrev pub Within : List ℕ → Rest → Type 0
Within string r = Covers string r.at (r.at + length r.rest) r.rest

-- What is told of a key usage (RFC 5280, 4.2.1.3).
use Rattle.std.specs.Prelude.{◌≡◌, ℕ, Bool, false, List, slice_index_or}
use Rattle.x509_der.specs.Tally.{Tally}
use Rattle.picky_asn1_x509.specs.KeyUsages.{key_usage}
use Rattle.x509_fields.specs.Spans.{FieldIn}
use Rattle.x509_fields.specs.declared.span.Span.{Span}

-- whatever usage the span of the string encodes, its bit at a place is this one; past the end it is false
abbrev pub UsageBit : List ℕ → Span → ℕ → Bool → Type 0
UsageBit string span index r = (v : List Bool) (whole : Tally) → FieldIn key_usage v span string whole → r ≡ slice_index_or v index false

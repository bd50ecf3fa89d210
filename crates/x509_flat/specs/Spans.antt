-- Spans without an option.
use Rattle.std.specs.Prelude.{Option, Some, None}
use Rattle.x509_fields.specs.declared.span.Span.{Span}
use Rattle.x509_flat.specs.declared.span.FlatSpan.{FlatSpan}

abbrev pub flat_span : Span → FlatSpan
flat_span span = record { start = span.start; end = span.end }

-- that of what isn't there is 0..0
abbrev pub no_span : FlatSpan
no_span = record { start = 0; end = 0 }

abbrev pub flat_span_if : Option Span → FlatSpan
flat_span_if (Some span) = flat_span span
flat_span_if None = no_span

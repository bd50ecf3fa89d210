-- What is told of the purposes of an extended key usage (RFC 5280, 4.2.1.12).
use Rattle.std.specs.Prelude.{ℕ, ◌+◌, List}
use Rattle.x509_der.specs.Element.{header}
use Rattle.x509_der.specs.Fields.{FieldAt}
use Rattle.x509_der.specs.Items.{items}
use Rattle.x509_der.specs.Tagged.{ContentAt}
use Rattle.x509_der.specs.Tally.{Tally}
use Rattle.picky_asn1_x509.specs.ExtendedKeyUsage.{extended_key_usage, key_purpose}
use Rattle.x509_fields.specs.Spans.{FieldIn}
use Rattle.x509_fields.specs.declared.span.Span.{Span}
use Rattle.x509_values.specs.Told.{HeldIn, EachTold, Fills}

-- of a purpose in the slice, which stands behind so many bytes: the content of its identifier
pub record PurposeTold (string : List ℕ) (whole : Tally) (v : List ℕ) (n : ℕ) (slice : List ℕ) (at : Span) : Type 0 where
  pub here : FieldAt key_purpose v n slice string whole
  pub content : HeldIn 6 slice n at

-- the list stands in the slice of a string, and each of its purposes is told, in order and none left out
pub record PurposesTold (v : List (List ℕ)) (n : ℕ) (slice string : List ℕ) (whole : Tally) (places : List Span) : Type 0 where
  pub list : ContentAt 48 (items key_purpose) v n slice string whole
  pub each : EachTold key_purpose string whole (PurposeTold string whole) v (n + header list.content) list.content list.inner.parts places

-- whatever purposes the span of the string encodes, they are told
abbrev pub PurposesWithin : List ℕ → Span → List Span → List Span → ℕ → Type 0
PurposesWithin string span old new count =
    (v : List (List ℕ)) (whole : Tally) (f : FieldIn extended_key_usage v span string whole) → Fills (PurposesTold v span.start f.slice string whole) old new count

-- What is told of a certificate.
use Rattle.std.specs.Prelude.{◌≡◌, ◌⊎◌, ℕ, List, [], Option, None, Result, Ok, Err}
use Rattle.x509_der.specs.Calls.{IsWhole, NoValue}
use Rattle.x509_der.specs.Integer.{integers}
use Rattle.x509_der.specs.Tagged.{tagged}
use Rattle.x509_der.specs.Tally.{Tally}
use Rattle.x509_der.specs.Types.{ReadError}
use Rattle.x509_names.specs.Names.{Sets, name}
use Rattle.picky_asn1_x509.specs.Certificates.{certificate}
use Rattle.picky_asn1_x509.specs.ExtensionLists.{extensions}
use Rattle.picky_asn1_x509.specs.Extensions.{ExtensionFields}
use Rattle.picky_asn1_x509.specs.declared.certificate.Certificate.{Certificate}
use Rattle.x509_fields.specs.Spans.{FieldIn}
use Rattle.x509_fields.specs.declared.span.Span.{Span}
use Rattle.x509_values.specs.Extensions.{ExtensionFound}
use Rattle.x509_values.specs.Names.{NameTold}
use Rattle.x509_values.specs.Told.{Fills, HeldIn}
use Rattle.x509_values.specs.declared.attributes.AttributePlace.{AttributePlace}

-- of the certificate that the bytes encode, the attributes of one of its names are told, which stands in a span
pub record NameCarried {A : Type 0} (of : Certificate A → Sets A) (bytes : List ℕ) (old new : List AttributePlace) (count : ℕ) : Type 0 where
  pub value : Certificate A
  pub tally : Tally
  pub whole : IsWhole (certificate {A = A}) bytes value tally
  pub span : Span
  pub stands : FieldIn name (of value) span bytes tally
  pub told : Fills (NameTold (of value) span.start stands.slice bytes tally) old new count

-- or they encode none, and nothing is written
abbrev pub NameOf : {A : Type 0} → (Certificate A → Sets A) → List ℕ → List AttributePlace → List AttributePlace → Result ℕ ReadError → Type 0
NameOf of bytes old new (Ok count) = NameCarried of bytes old new count
NameOf {A} of bytes old new (Err e) = NoValue (certificate {A = A}) bytes e × (new ≡ old)

-- the list of extensions stands in a span, and the first with the identifier is told, or that there is none
pub record ListStands {A : Type 0} (identifier : List ℕ) (list : List (ExtensionFields A)) (bytes : List ℕ) (whole : Tally) (at : Option Span) : Type 0 where
  pub span : Span
  pub stands : FieldIn extensions list span bytes whole
  pub first : ExtensionFound identifier list span.start stands.slice bytes whole at

-- of the certificate that the bytes encode; without extensions there is none
pub record ExtensionCarried (A : Type 0) (identifier bytes : List ℕ) (at : Option Span) : Type 0 where
  pub value : Certificate A
  pub tally : Tally
  pub whole : IsWhole (certificate {A = A}) bytes value tally
  pub told : ListStands identifier value.tbs_certificate.extensions bytes tally at ⊎ ((value.tbs_certificate.extensions ≡ []) × (at ≡ None))

-- the serial number of the certificate that the bytes encode: the content of its INTEGER
pub record SerialCarried (A : Type 0) (bytes : List ℕ) (at : Span) : Type 0 where
  pub value : Certificate A
  pub tally : Tally
  pub whole : IsWhole (certificate {A = A}) bytes value tally
  pub span : Span
  pub stands : FieldIn (tagged 2 integers) value.tbs_certificate.serial_number span bytes tally
  pub content : HeldIn 2 stands.slice span.start at

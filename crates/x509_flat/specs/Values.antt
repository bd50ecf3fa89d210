-- What is told of the values of a certificate.
use Rattle.std.specs.Prelude.{◌≡◌, ℕ, ◌<◌, ◌≤◌, List, length, ◌⊎◌}
use Rattle.x509_der.specs.Calls.{IsWhole}
use Rattle.x509_der.specs.Shape.{Shape}
use Rattle.x509_der.specs.Tally.{Tally}
use Rattle.x509_names.specs.Names.{Sets}
use Rattle.x509_names.specs.declared.general_name.GeneralName.{GeneralName}
use Rattle.picky_asn1_x509.specs.Certificates.{certificate}
use Rattle.picky_asn1_x509.specs.declared.certificate.Certificate.{Certificate}
use Rattle.x509_values.specs.Certificates.{NameCarried}
use Rattle.x509_values.specs.GeneralNames.{NamesTold, general_names}
use Rattle.x509_values.specs.Told.{Fills}
use Rattle.x509_values.specs.declared.attributes.AttributePlace.{AttributePlace}
use Rattle.x509_values.specs.declared.general_names.GeneralNamePlace.{GeneralNamePlace}
use Rattle.x509_flat.specs.Encodings.{Untouched}
use Rattle.x509_flat.specs.Spans.{no_span}
use Rattle.x509_flat.specs.Statuses.{OnlyReads}
use Rattle.x509_flat.specs.declared.span.FlatSpan.{FlatSpan}
use Rattle.x509_flat.specs.declared.status.Status.{Status}
use Rattle.x509_flat.specs.declared.status.Status.TheVariants as answer

-- there is room for so many items, or there isn't: then those are written for which there is
abbrev pub FrontTold : Status → ℕ → ℕ → Type 0
FrontTold status count room = ((status ≡ answer.Done) × (count ≤ room)) ⊎ ((status ≡ answer.TooShort) × (room < count))

-- what a status says of writing items to the front of a slice, as far as there is room, of the value that the bytes encode; memory is never refused
pub record FrontFilled {V P : Type 0} (s : Shape V) (bytes : List ℕ) (fact : ℕ → Type 0) (old new : List P) (status : Status) (count : ℕ) : Type 0 where
  pub done : status ≡ answer.Done → fact count × (count ≤ length old)
  pub short : status ≡ answer.TooShort → fact count × (length old < count)
  pub refused : status ≡ answer.Refused → Untouched old new count × ((v : V) (y : Tally) → s.spelled v bytes y → ⊥)
  pub memory : status ≡ answer.OutOfMemory → ⊥
  pub unknown : status ≡ answer.UnknownKind → ⊥
  pub long : status ≡ answer.TooLong → ⊥

-- of the attributes of one of a certificate's names
abbrev pub NameFills : {A : Type 0} → (Certificate A → Sets A) → List ℕ → List AttributePlace → List AttributePlace → Status → ℕ → Type 0
NameFills {A} of bytes old new status count = FrontFilled (certificate {A = A}) bytes (NameCarried of bytes old new) old new status count

-- the general names of the list that the bytes encode, which stands from their first byte on
pub record ListCarried (A : Type 0) (bytes : List ℕ) (old new : List GeneralNamePlace) (count : ℕ) : Type 0 where
  pub value : List (GeneralName A)
  pub tally : Tally
  pub whole : IsWhole (general_names {A = A}) bytes value tally
  pub told : Fills (NamesTold value 0 bytes bytes tally) old new count

abbrev pub GeneralNamesTold : (A : Type 0) → List ℕ → List GeneralNamePlace → List GeneralNamePlace → Status → ℕ → Type 0
GeneralNamesTold A bytes old new status count = FrontFilled (general_names {A = A}) bytes (ListCarried A bytes old new) old new status count

-- a place that is told as a span
pub record ToldAs {P : Type 0} (flat : P → FlatSpan) (fact : P → Type 0) (fields : FlatSpan) : Type 0 where
  pub place : P
  pub holds : fact place
  pub is : fields ≡ flat place

-- what a status says of telling a place in bytes that encode a value; memory is never refused
pub record SpanTold {V P : Type 0} (s : Shape V) (bytes : List ℕ) (flat : P → FlatSpan) (fact : P → Type 0) (status : Status) (fields : FlatSpan) : Type 0 where
  pub done : status ≡ answer.Done → ToldAs flat fact fields
  pub refused : status ≡ answer.Refused → (fields ≡ no_span) × ((v : V) (y : Tally) → s.spelled v bytes y → ⊥)
  pub memory : status ≡ answer.OutOfMemory → ⊥
  pub others : OnlyReads status

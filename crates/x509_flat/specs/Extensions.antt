-- Where extensions stand, as it is told.
use Rattle.std.specs.Prelude.{◌≡◌, ℕ, ◌+◌, ◌<◌, List, [], ◌∷◌, length, Option, Some, None}
use Rattle.x509_der.specs.Calls.{IsWhole}
use Rattle.x509_der.specs.Items.{ItemsAt}
use Rattle.x509_der.specs.Shape.{Shape}
use Rattle.x509_der.specs.Tally.{Tally}
use Rattle.picky_asn1_x509.specs.Certificates.{certificate}
use Rattle.picky_asn1_x509.specs.ExtensionLists.{extensions}
use Rattle.picky_asn1_x509.specs.Extensions.{ExtensionFields, extension}
use Rattle.x509_fields.specs.Extensions.{ExtensionIn}
use Rattle.x509_fields.specs.Found.{CarriedIn, ListedIn}
use Rattle.x509_fields.specs.Spans.{FieldIn}
use Rattle.x509_fields.specs.Walks.{Walk}
use Rattle.x509_fields.specs.declared.extension.ExtensionFields.{ExtensionFields as Places}
use Rattle.x509_fields.specs.declared.span.Span.{Span}
use Rattle.x509_flat.specs.Encodings.{Filled, Untouched}
use Rattle.x509_flat.specs.Spans.{flat_span}
use Rattle.x509_flat.specs.declared.extensions.FlatExtension.{FlatExtension}
use Rattle.x509_flat.specs.declared.span.FlatSpan.{FlatSpan}
use Rattle.x509_flat.specs.declared.status.Status.{Status}
use Rattle.x509_flat.specs.declared.status.Status.TheVariants as answer

-- a span behind so many bytes
abbrev pub span_behind : ℕ → Span → FlatSpan
span_behind n span = record { start = n + span.start; end = n + span.end }

-- that of what isn't there is 0..0
abbrev pub span_behind_if : ℕ → Option Span → FlatSpan
span_behind_if n (Some span) = span_behind n span
span_behind_if n None = record { start = 0; end = 0 }

-- an extension and each of its fields stand where it is told
pub record ExtensionStands {A : Type 0} (v : ExtensionFields A) (at : FlatExtension) (string : List ℕ) (whole : Tally) : Type 0 where
  pub span : Span
  pub here : FieldIn extension v span string whole
  pub place : at.whole ≡ flat_span span
  pub fields : Places
  pub within : ExtensionIn v fields here.slice here.at.tally
  pub extn_id : at.extn_id ≡ span_behind span.start fields.extn_id
  pub critical : at.critical ≡ span_behind_if span.start fields.critical
  pub extn_value : at.extn_value ≡ span_behind span.start fields.extn_value

-- each extension of a list stands right behind the one before it, the first behind so many bytes
abbrev pub EachStands : {A : Type 0} → List (ExtensionFields A) → List FlatExtension → ℕ → List ℕ → Tally → Type 0
EachStands [] [] n string whole = Unit {0}
EachStands [] (at ∷ more) n string whole = ⊥
EachStands (v ∷ vs) [] n string whole = ⊥
EachStands (v ∷ vs) (at ∷ more) n string whole = (at.whole.start ≡ n) × (ExtensionStands v at string whole × EachStands vs more at.whole.end string whole)

-- the places of a list's extensions, which stand behind so many bytes, are in front of what the slice had behind them
pub record Front {A : Type 0} (list : List (ExtensionFields A)) (first : ℕ) (string : List ℕ) (whole : Tally) (old new : List FlatExtension) (size : ℕ) : Type 0 where
  pub places : List FlatExtension
  pub stand : EachStands list places first string whole
  pub filled : Filled places old new size

-- so many items don't fit, and the slice is as it was
pub record NoRoom (count : ℕ) (old new : List FlatExtension) (size : ℕ) : Type 0 where
  pub told : size ≡ count
  pub same : new ≡ old
  pub short : length old < count

-- whatever extension the span of the string encodes, it and its fields stand there
abbrev pub PlacedAt : (A : Type 0) → List ℕ → Span → FlatExtension → Type 0
PlacedAt A string span at = (v : ExtensionFields A) (whole : Tally) → FieldIn extension v span string whole → ExtensionStands v at string whole

-- whatever list of so many extensions stands in a string from a place on, their places are in front
abbrev pub Fronts : (A : Type 0) → ℕ → List ℕ → ℕ → List ℕ → List FlatExtension → List FlatExtension → Type 0
Fronts A size string at slice old new = (list : List (ExtensionFields A)) (whole : Tally) → length list ≡ size → ItemsAt extension string whole list at slice → Front list at string whole old new size

-- what a status says of writing the places of a list's extensions, which stand in a string one behind another from a place on
pub record PutsExtensions {A : Type 0} (list : List (ExtensionFields A)) (first : ℕ) (string : List ℕ) (whole : Tally) (old new : List FlatExtension) (status : Status) (size : ℕ) : Type 0 where
  pub done : status ≡ answer.Done → Front list first string whole old new size
  pub short : status ≡ answer.TooShort → NoRoom (length list) old new size

-- the same, whatever list it is; no other status is told
pub record PutsAll (A : Type 0) (string : List ℕ) (at : ℕ) (slice : List ℕ) (old new : List FlatExtension) (status : Status) (size : ℕ) : Type 0 where
  pub puts : (list : List (ExtensionFields A)) (whole : Tally) → ItemsAt extension string whole list at slice → PutsExtensions list at string whole old new status size
  pub refused : status ≡ answer.Refused → ⊥
  pub memory : status ≡ answer.OutOfMemory → ⊥
  pub unknown : status ≡ answer.UnknownKind → ⊥
  pub long : status ≡ answer.TooLong → ⊥

-- a value that the bytes encode, and a walk over its extensions, of which, and of where they begin, a fact holds
pub record Listing {A V : Type 0} (s : Shape V) (list : V → List (ExtensionFields A)) (WalkedIn : V → Walk → List ℕ → Tally → Type 0) (bytes : List ℕ) (fact : List (ExtensionFields A) → ℕ → Tally → Type 0) : Type 0 where
  pub value : V
  pub tally : Tally
  pub whole : IsWhole s bytes value tally
  pub walk : Walk
  pub walked : WalkedIn value walk bytes tally
  pub holds : fact (list value) walk.at tally

-- what a status says of telling the extensions in bytes that encode a value of a type; memory is never refused
pub record ExtensionsTold {A V : Type 0} (s : Shape V) (list : V → List (ExtensionFields A)) (WalkedIn : V → Walk → List ℕ → Tally → Type 0) (bytes : List ℕ) (old new : List FlatExtension) (status : Status) (size : ℕ) : Type 0 where
  pub done : status ≡ answer.Done → Listing s list WalkedIn bytes (λ es first y. Front es first bytes y old new size)
  pub short : status ≡ answer.TooShort → Listing s list WalkedIn bytes (λ es first y. NoRoom (length es) old new size)
  pub refused : status ≡ answer.Refused → Untouched old new size × ((v : V) (y : Tally) → s.spelled v bytes y → ⊥)
  pub memory : status ≡ answer.OutOfMemory → ⊥
  pub unknown : status ≡ answer.UnknownKind → ⊥
  pub long : status ≡ answer.TooLong → ⊥

-- of a certificate, and of a list
abbrev pub CarriedTold : (A : Type 0) → List ℕ → List FlatExtension → List FlatExtension → Status → ℕ → Type 0
CarriedTold A = ExtensionsTold (certificate {A = A}) (λ v. v.tbs_certificate.extensions) CarriedIn

abbrev pub ListTold : (A : Type 0) → List ℕ → List FlatExtension → List FlatExtension → Status → ℕ → Type 0
ListTold A = ExtensionsTold (extensions {A = A}) (λ v. v) ListedIn

-- What writing a report tells.
use Rattle.std.specs.Prelude.{◌≡◌, ◌<◌, ◌⊎◌, ℕ, List, ◌++◌, Result, Ok, Err, length, codes, decimal}
use Rattle.x509_der.specs.Types.{Refused}
use Rattle.x509_der.specs.Types.read_error
use Rattle.x509_flat.specs.Encodings.{Filled, Short, Untouched}
use Rattle.x509_flat.specs.declared.kind.Kind.{Kind as FlatKind}
use Rattle.x509_flat.specs.declared.kind.Kind.TheVariants as flat
use Rattle.x509_flat.specs.declared.status.Status.{Status}
use Rattle.x509_flat.specs.declared.status.Status.TheVariants as answer
use Rattle.x509_flat_report.specs.declared.reading.Reading.{Reading}
use Rattle.x509_flat_report.specs.declared.reading.Reading.TheVariants as reading
use Rattle.x509_inspect.specs.Outcomes.{Counts, NotRead}
use Rattle.x509_inspect.specs.Shapes.{Value, shape_of}
use Rattle.x509_inspect_parts.specs.Kinds.{kind_name}
use Rattle.x509_inspect_parts.specs.declared.kind.Kind.TheVariants as kind
use Rattle.x509_outline_kinds.specs.Kinds.{outline_name}
use Rattle.x509_outline_kinds.specs.Outcomes.{NotRead as NoOutline}
use Rattle.x509_outline_kinds.specs.Shapes.{Value as OutlineValue, shape_of as outline_shape_of}
use Rattle.x509_outline_kinds.specs.declared.kind.OutlineKind.TheVariants as outline

-- what a status says of writing a text to the front of a slice
pub record PutsText (text old new : List ℕ) (status : Status) (size : ℕ) : Type 0 where
  pub done : status ≡ answer.Done → Filled text old new size
  pub short : status ≡ answer.TooShort → Short text old new size
  pub refused : status ≡ answer.Refused → ⊥
  pub memory : status ≡ answer.OutOfMemory → ⊥
  pub unknown : status ≡ answer.UnknownKind → ⊥
  pub long : status ≡ answer.TooLong → ⊥

-- as what the types are read that have numbers
abbrev pub reading_of : FlatKind → Reading
reading_of flat.Certificate = reading.Whole kind.Certificate
reading_of flat.Request = reading.Whole kind.Request
reading_of flat.PrivateKey = reading.Whole kind.PrivateKey
reading_of flat.PublicKey = reading.Whole kind.PublicKey
reading_of flat.RsaPrivateKey = reading.Whole kind.RsaPrivateKey
reading_of flat.RsaPublicKey = reading.Whole kind.RsaPublicKey
reading_of flat.EcPrivateKey = reading.Whole kind.EcPrivateKey
reading_of flat.Name = reading.Whole kind.Name
reading_of flat.Extensions = reading.Whole kind.Extensions
reading_of flat.Algorithm = reading.Whole kind.Algorithm
reading_of flat.RawAlgorithm = reading.Whole kind.RawAlgorithm
reading_of flat.RequestInfo = reading.Whole kind.RequestInfo
reading_of flat.TbsCertificate = reading.Whole kind.TbsCertificate
reading_of flat.CertificateOutline = reading.Outline outline.Certificate
reading_of flat.RequestOutline = reading.Outline outline.Request
reading_of flat.PrivateKeyOutline = reading.Outline outline.PrivateKey
reading_of flat.PublicKeyOutline = reading.Outline outline.PublicKey
reading_of flat.Crl = reading.Outline outline.RevocationList

-- how reports name them
abbrev pub name_of : Reading → List ℕ
name_of (reading.Whole k) = kind_name k
name_of (reading.Outline k) = outline_name k

-- the word for what reading came to: a value without deviations, one with some, or none, of which want of memory is no reason
abbrev pub IsWord : Result ℕ Refused → List ℕ → Type 0
IsWord (Ok count) word = ((count ≡ 0) × (word ≡ codes "ok")) ⊎ ((0 < count) × (word ≡ codes "deviations"))
IsWord (Err why) word = (why.error ≡ read_error.OutOfMemory → ⊥) × (word ≡ codes "refused")

-- what bytes came to: how many deviations they have, or why they encode no value
abbrev pub ComesTo : (A : Type 0) → Reading → List ℕ → Result ℕ Refused → Type 0
ComesTo A (reading.Whole k) bytes (Ok count) = Counts (Value A k) (shape_of A k) bytes count
ComesTo A (reading.Whole k) bytes (Err why) = NotRead (Value A k) (shape_of A k) bytes why
ComesTo A (reading.Outline k) bytes (Ok count) = Counts (OutlineValue A k) (outline_shape_of A k) bytes count
ComesTo A (reading.Outline k) bytes (Err why) = NoOutline (OutlineValue A k) (outline_shape_of A k) bytes why

-- what a report begins with: the name of the type, how many bytes there are, and what reading them came to
abbrev pub beginning_of : (name : List ℕ) → ℕ → (word : List ℕ) → List ℕ
beginning_of name count word = codes "{\"type\":\"" ++ (name ++ (codes "\",\"length\":" ++ (decimal count ++ (codes ",\"result\":\"" ++ (word ++ codes "\",")))))

-- a report of bytes, up to the members behind its result
pub record IsReport (A : Type 0) (as_what : Reading) (bytes text : List ℕ) : Type 0 where
  pub outcome : Result ℕ Refused
  pub comes : ComesTo A as_what bytes outcome
  pub word : List ℕ
  pub said : IsWord outcome word
  pub more : List ℕ
  pub begins : text ≡ beginning_of (name_of as_what) (length bytes) word ++ more

-- a text that may be written, of which a fact holds
pub record WithText (Writes : List ℕ → Type 0) (fact : List ℕ → Type 0) : Type 0 where
  pub text : List ℕ
  pub written : Writes text
  pub holds : fact text

-- what a status says of writing a report to the front of a slice: which texts may be written is said by who writes them
pub record Reported (Writes : List ℕ → Type 0) (old new : List ℕ) (status : Status) (size : ℕ) : Type 0 where
  pub done : status ≡ answer.Done → WithText Writes (λ text. Filled text old new size)
  pub short : status ≡ answer.TooShort → WithText Writes (λ text. Short text old new size)
  pub memory : status ≡ answer.OutOfMemory → Untouched old new size
  pub refused : status ≡ answer.Refused → ⊥
  pub unknown : status ≡ answer.UnknownKind → ⊥
  pub long : status ≡ answer.TooLong → ⊥

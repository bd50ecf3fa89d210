-- What writing a DER encoding tells.
use Rattle.std.specs.Prelude.{◌≡◌, ℕ, ◌<◌, ◌≤◌, ◌^◌, List, ◌++◌, length, drop}
use Rattle.x509_der.specs.Calls.{IsWhole}
use Rattle.x509_der.specs.Shape.{Shape}
use Rattle.x509_der.specs.Tally.{Tally}
use Rattle.x509_keys.specs.AlgorithmIdentifier.{algorithm_identifier}
use Rattle.x509_keys.specs.EcPrivateKeys.{ec_private_key}
use Rattle.x509_keys.specs.PrivateKeyInfos.{private_key_info}
use Rattle.x509_keys.specs.RawAlgorithm.{raw_algorithm}
use Rattle.x509_keys.specs.RsaPrivateKeys.{rsa_private_key}
use Rattle.x509_keys.specs.RsaPublicKeys.{rsa_public_key}
use Rattle.x509_keys.specs.SubjectPublicKeyInfos.{subject_public_key_info}
use Rattle.x509_names.specs.Names.{name}
use Rattle.picky_asn1_x509.specs.Certificates.{certificate}
use Rattle.picky_asn1_x509.specs.ExtensionLists.{extensions}
use Rattle.picky_asn1_x509.specs.Requests.{request, request_info}
use Rattle.picky_asn1_x509.specs.TbsCertificates.{tbs_certificate}
use Rattle.x509_list_outlines.specs.CertificateLists.{certificate_list}
use Rattle.x509_more_outlines.specs.PrivateKeys.{private_key as private_key_outline}
use Rattle.x509_more_outlines.specs.Requests.{request as request_outline}
use Rattle.x509_outline.specs.Certificates.{certificate as certificate_outline}
use Rattle.x509_outline_parts.specs.PublicKeys.{public_key as public_key_outline}
use Rattle.x509_flat.specs.declared.kind.Kind.{Kind}
use Rattle.x509_flat.specs.declared.status.Status.{Status}
use Rattle.x509_flat.specs.declared.kind.Kind.TheVariants as kind
use Rattle.x509_flat.specs.declared.status.Status.TheVariants as answer

-- a list stands in front of what the slice had behind it
pub record Filled {T : Type 0} (items old new : List T) (size : ℕ) : Type 0 where
  pub told : size ≡ length items
  pub filled : new ≡ items ++ drop (length items) old

-- the slice is shorter than the list, and as it was
pub record Short {T : Type 0} (items old new : List T) (size : ℕ) : Type 0 where
  pub told : size ≡ length items
  pub same : new ≡ old
  pub short : length old < length items

-- the slice is as it was, and no size is told
pub record Untouched {T : Type 0} (old new : List T) (size : ℕ) : Type 0 where
  pub told : size ≡ 0
  pub same : new ≡ old

-- what a status says of writing a string to the front of a slice
pub record Writes (string old new : List ℕ) (status : Status) (size : ℕ) : Type 0 where
  pub done : status ≡ answer.Done → Filled string old new size
  pub short : status ≡ answer.TooShort → Short string old new size
  pub long : status ≡ answer.TooLong → Untouched old new size × (2 ^ 64 ≤ length string)
  pub refused : status ≡ answer.Refused → ⊥
  pub memory : status ≡ answer.OutOfMemory → ⊥
  pub unknown : status ≡ answer.UnknownKind → ⊥

-- a value that the bytes encode, of whose DER encoding a fact holds
pub record WithEncoding {V : Type 0} (s : Shape V) (bytes : List ℕ) (fact : List ℕ → Type 0) : Type 0 where
  pub value : V
  pub tally : Tally
  pub whole : IsWhole s bytes value tally
  pub holds : fact (s.strict value)

-- what a status says of writing the DER encoding of the value of a type that bytes encode
pub record Encodes {V : Type 0} (s : Shape V) (bytes old new : List ℕ) (status : Status) (size : ℕ) : Type 0 where
  pub done : status ≡ answer.Done → WithEncoding s bytes (λ string. Filled string old new size)
  pub short : status ≡ answer.TooShort → WithEncoding s bytes (λ string. Short string old new size)
  pub long : status ≡ answer.TooLong → WithEncoding s bytes (λ string. Untouched old new size × (2 ^ 64 ≤ length string))
  pub refused : status ≡ answer.Refused → Untouched old new size × ((v : V) (y : Tally) → s.spelled v bytes y → ⊥)
  pub memory : status ≡ answer.OutOfMemory → Untouched old new size
  pub unknown : status ≡ answer.UnknownKind → ⊥

-- the same of the type of a number
abbrev pub EncodesOf : (A : Type 0) → Kind → List ℕ → List ℕ → List ℕ → Status → ℕ → Type 0
EncodesOf A kind.Certificate bytes old new status size = Encodes (certificate {A = A}) bytes old new status size
EncodesOf A kind.Request bytes old new status size = Encodes (request {A = A}) bytes old new status size
EncodesOf A kind.PrivateKey bytes old new status size = Encodes (private_key_info {A = A}) bytes old new status size
EncodesOf A kind.PublicKey bytes old new status size = Encodes (subject_public_key_info {A = A}) bytes old new status size
EncodesOf A kind.RsaPrivateKey bytes old new status size = Encodes (rsa_private_key {A = A}) bytes old new status size
EncodesOf A kind.RsaPublicKey bytes old new status size = Encodes (rsa_public_key {A = A}) bytes old new status size
EncodesOf A kind.EcPrivateKey bytes old new status size = Encodes (ec_private_key {A = A}) bytes old new status size
EncodesOf A kind.Name bytes old new status size = Encodes (name {A = A}) bytes old new status size
EncodesOf A kind.Extensions bytes old new status size = Encodes (extensions {A = A}) bytes old new status size
EncodesOf A kind.Algorithm bytes old new status size = Encodes (algorithm_identifier {A = A}) bytes old new status size
EncodesOf A kind.RawAlgorithm bytes old new status size = Encodes raw_algorithm bytes old new status size
EncodesOf A kind.RequestInfo bytes old new status size = Encodes (request_info {A = A}) bytes old new status size
EncodesOf A kind.TbsCertificate bytes old new status size = Encodes (tbs_certificate {A = A}) bytes old new status size
EncodesOf A kind.CertificateOutline bytes old new status size = Encodes (certificate_outline {A = A}) bytes old new status size
EncodesOf A kind.RequestOutline bytes old new status size = Encodes (request_outline {A = A}) bytes old new status size
EncodesOf A kind.PrivateKeyOutline bytes old new status size = Encodes (private_key_outline {A = A}) bytes old new status size
EncodesOf A kind.PublicKeyOutline bytes old new status size = Encodes (public_key_outline {A = A}) bytes old new status size
EncodesOf A kind.Crl bytes old new status size = Encodes (certificate_list {A = A}) bytes old new status size

-- Where deviations stand, as it is told.
use Rattle.std.specs.Prelude.{◌≡◌, ℕ, ◌+◌, List, [], map}
use Rattle.x509_der.specs.Calls.{Located}
use Rattle.x509_der.specs.Deviations.{kind_index}
use Rattle.x509_der.specs.Shape.{Shape}
use Rattle.x509_der.specs.Tally.{Mark, Tally}
use Rattle.x509_keys.specs.AlgorithmIdentifier.{algorithm_identifier}
use Rattle.x509_keys.specs.EcPrivateKeys.{ec_private_key}
use Rattle.x509_keys.specs.PrivateKeyInfos.{private_key_info}
use Rattle.x509_keys.specs.RawAlgorithm.{raw_algorithm}
use Rattle.x509_keys.specs.RsaPrivateKeys.{rsa_private_key}
use Rattle.x509_keys.specs.RsaPublicKeys.{rsa_public_key}
use Rattle.x509_keys.specs.SubjectPublicKeyInfos.{subject_public_key_info}
use Rattle.x509_names.specs.Names.{name}
use Rattle.picky_asn1_x509.specs.Certificates.{certificate}
use Rattle.picky_asn1_x509.specs.ExtensionLists.{extensions}
use Rattle.picky_asn1_x509.specs.Requests.{request, request_info}
use Rattle.picky_asn1_x509.specs.TbsCertificates.{tbs_certificate}
use Rattle.x509_list_outlines.specs.CertificateLists.{certificate_list}
use Rattle.x509_more_outlines.specs.PrivateKeys.{private_key as private_key_outline}
use Rattle.x509_more_outlines.specs.Requests.{request as request_outline}
use Rattle.x509_outline.specs.Certificates.{certificate as certificate_outline}
use Rattle.x509_outline_parts.specs.PublicKeys.{public_key as public_key_outline}
use Rattle.x509_flat.specs.Encodings.{Filled, Short, Untouched}
use Rattle.x509_flat.specs.declared.kind.Kind.{Kind}
use Rattle.x509_flat.specs.declared.places.FlatPlace.{FlatPlace}
use Rattle.x509_flat.specs.declared.status.Status.{Status}
use Rattle.x509_flat.specs.declared.kind.Kind.TheVariants as kind
use Rattle.x509_flat.specs.declared.status.Status.TheVariants as answer

-- a place whose kind is told by its number
abbrev pub flat_place : Mark → FlatPlace
flat_place m = record { deviation = kind_index m.kind + 1; start = m.start; end = m.end }

-- what a status says of writing places to the front of a slice
pub record PutsPlaces (marks : List Mark) (old new : List FlatPlace) (status : Status) (size : ℕ) : Type 0 where
  pub done : status ≡ answer.Done → Filled (map flat_place marks) old new size
  pub short : status ≡ answer.TooShort → Short (map flat_place marks) old new size
  pub refused : status ≡ answer.Refused → ⊥
  pub memory : status ≡ answer.OutOfMemory → ⊥
  pub unknown : status ≡ answer.UnknownKind → ⊥
  pub long : status ≡ answer.TooLong → ⊥

-- a value that the bytes encode, of the places of whose deviations a fact holds
pub record WithPlaces {V : Type 0} (s : Shape V) (bytes : List ℕ) (fact : List FlatPlace → Type 0) : Type 0 where
  pub value : V
  pub marks : List Mark
  pub located : Located s bytes value marks
  pub holds : fact (map flat_place marks)

-- what a status says of telling the places in bytes that encode a value of a type; memory is refused for places alone
pub record Places {V : Type 0} (s : Shape V) (bytes : List ℕ) (old new : List FlatPlace) (status : Status) (size : ℕ) : Type 0 where
  pub done : status ≡ answer.Done → WithPlaces s bytes (λ places. Filled places old new size)
  pub short : status ≡ answer.TooShort → WithPlaces s bytes (λ places. Short places old new size)
  pub refused : status ≡ answer.Refused → Untouched old new size × ((v : V) (y : Tally) → s.spelled v bytes y → ⊥)
  pub memory : status ≡ answer.OutOfMemory → Untouched old new size × ((v : V) (y : Tally) → s.spelled v bytes y → y.marks ≡ [] → ⊥)
  pub unknown : status ≡ answer.UnknownKind → ⊥
  pub long : status ≡ answer.TooLong → ⊥

-- the same of the type of a number
abbrev pub PlacesOf : (A : Type 0) → Kind → List ℕ → List FlatPlace → List FlatPlace → Status → ℕ → Type 0
PlacesOf A kind.Certificate bytes old new status size = Places (certificate {A = A}) bytes old new status size
PlacesOf A kind.Request bytes old new status size = Places (request {A = A}) bytes old new status size
PlacesOf A kind.PrivateKey bytes old new status size = Places (private_key_info {A = A}) bytes old new status size
PlacesOf A kind.PublicKey bytes old new status size = Places (subject_public_key_info {A = A}) bytes old new status size
PlacesOf A kind.RsaPrivateKey bytes old new status size = Places (rsa_private_key {A = A}) bytes old new status size
PlacesOf A kind.RsaPublicKey bytes old new status size = Places (rsa_public_key {A = A}) bytes old new status size
PlacesOf A kind.EcPrivateKey bytes old new status size = Places (ec_private_key {A = A}) bytes old new status size
PlacesOf A kind.Name bytes old new status size = Places (name {A = A}) bytes old new status size
PlacesOf A kind.Extensions bytes old new status size = Places (extensions {A = A}) bytes old new status size
PlacesOf A kind.Algorithm bytes old new status size = Places (algorithm_identifier {A = A}) bytes old new status size
PlacesOf A kind.RawAlgorithm bytes old new status size = Places raw_algorithm bytes old new status size
PlacesOf A kind.RequestInfo bytes old new status size = Places (request_info {A = A}) bytes old new status size
PlacesOf A kind.TbsCertificate bytes old new status size = Places (tbs_certificate {A = A}) bytes old new status size
PlacesOf A kind.CertificateOutline bytes old new status size = Places (certificate_outline {A = A}) bytes old new status size
PlacesOf A kind.RequestOutline bytes old new status size = Places (request_outline {A = A}) bytes old new status size
PlacesOf A kind.PrivateKeyOutline bytes old new status size = Places (private_key_outline {A = A}) bytes old new status size
PlacesOf A kind.PublicKeyOutline bytes old new status size = Places (public_key_outline {A = A}) bytes old new status size
PlacesOf A kind.Crl bytes old new status size = Places (certificate_list {A = A}) bytes old new status size

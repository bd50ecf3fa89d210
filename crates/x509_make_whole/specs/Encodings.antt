-- What is made of a description: the DER encoding of some value of the type that it names (X.690, 10 and 11).
use Rattle.std.specs.Prelude.{◌≡◌, ℕ, List, []}
use Rattle.x509_der.specs.Shape.{Shape}
use Rattle.x509_der.specs.Tally.{Tally}
use Rattle.picky_asn1_x509.specs.Certificates.{certificate}
use Rattle.picky_asn1_x509.specs.ExtensionLists.{extensions}
use Rattle.picky_asn1_x509.specs.Requests.{request, request_info}
use Rattle.picky_asn1_x509.specs.TbsCertificates.{tbs_certificate}
use Rattle.x509_keys.specs.AlgorithmIdentifier.{algorithm_identifier}
use Rattle.x509_keys.specs.EcPrivateKeys.{ec_private_key}
use Rattle.x509_keys.specs.PrivateKeyInfos.{private_key_info}
use Rattle.x509_keys.specs.RawAlgorithm.{raw_algorithm}
use Rattle.x509_keys.specs.RsaPrivateKeys.{rsa_private_key}
use Rattle.x509_keys.specs.RsaPublicKeys.{rsa_public_key}
use Rattle.x509_keys.specs.SubjectPublicKeyInfos.{subject_public_key_info}
use Rattle.x509_names.specs.Names.{name}
use Rattle.x509_make_whole.specs.declared.made.Made.{Made}
use Rattle.x509_make_whole.specs.declared.made.Made.TheVariants as made

-- the bytes are read as a value without any deviation, and are what it is written as
pub record IsDer {V : Type 0} (s : Shape V) (bytes : List ℕ) : Type 0 where
  pub value : V
  pub tally : Tally
  pub spelled : s.spelled value bytes tally
  pub clean : tally.marks ≡ []
  pub strict : bytes ≡ s.strict value

-- the same of the type that is made
abbrev pub IsMade : (A : Type 0) → Made → List ℕ → Type 0
IsMade A made.RequestInfo bytes = IsDer (request_info {A = A}) bytes
IsMade A made.TbsCertificate bytes = IsDer (tbs_certificate {A = A}) bytes
IsMade A made.Certificate bytes = IsDer (certificate {A = A}) bytes
IsMade A made.Request bytes = IsDer (request {A = A}) bytes
IsMade A made.PublicKey bytes = IsDer (subject_public_key_info {A = A}) bytes
IsMade A made.RsaPublicKey bytes = IsDer (rsa_public_key {A = A}) bytes
IsMade A made.Name bytes = IsDer (name {A = A}) bytes
IsMade A made.Extensions bytes = IsDer (extensions {A = A}) bytes
IsMade A made.Algorithm bytes = IsDer (algorithm_identifier {A = A}) bytes
IsMade A made.RawAlgorithm bytes = IsDer raw_algorithm bytes
IsMade A made.PrivateKey bytes = IsDer (private_key_info {A = A}) bytes
IsMade A made.RsaPrivateKey bytes = IsDer (rsa_private_key {A = A}) bytes
IsMade A made.EcPrivateKey bytes = IsDer (ec_private_key {A = A}) bytes

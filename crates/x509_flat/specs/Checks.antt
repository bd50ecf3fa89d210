-- What a check tells.
use Rattle.std.specs.Prelude.{◌≡◌, ℕ, List, replicate, Result, Ok, Err}
use Rattle.x509_der.specs.Calls.{MeteredCheck}
use Rattle.x509_der.specs.ReadErrors.{error_number}
use Rattle.x509_der.specs.Shape.{Shape}
use Rattle.x509_keys.specs.AlgorithmIdentifier.{algorithm_identifier}
use Rattle.x509_keys.specs.EcPrivateKeys.{ec_private_key}
use Rattle.x509_keys.specs.PrivateKeyInfos.{private_key_info}
use Rattle.x509_keys.specs.RawAlgorithm.{raw_algorithm}
use Rattle.x509_keys.specs.RsaPrivateKeys.{rsa_private_key}
use Rattle.x509_keys.specs.RsaPublicKeys.{rsa_public_key}
use Rattle.x509_keys.specs.SubjectPublicKeyInfos.{subject_public_key_info}
use Rattle.x509_names.specs.Names.{name}
use Rattle.picky_asn1_x509.specs.Certificates.{certificate}
use Rattle.picky_asn1_x509.specs.ExtensionLists.{extensions}
use Rattle.picky_asn1_x509.specs.Requests.{request, request_info}
use Rattle.picky_asn1_x509.specs.TbsCertificates.{tbs_certificate}
use Rattle.picky_asn1_x509.specs.Types.{Refused}
use Rattle.x509_list_outlines.specs.CertificateLists.{certificate_list}
use Rattle.x509_more_outlines.specs.PrivateKeys.{private_key as private_key_outline}
use Rattle.x509_more_outlines.specs.Requests.{request as request_outline}
use Rattle.x509_outline.specs.Certificates.{certificate as certificate_outline}
use Rattle.x509_outline_parts.specs.PublicKeys.{public_key as public_key_outline}
use Rattle.x509_flat.specs.declared.check.Verdict.{Verdict}
use Rattle.x509_flat.specs.declared.kind.Kind.{Kind}
use Rattle.x509_flat.specs.declared.status.Status.{Status}
use Rattle.x509_flat.specs.declared.kind.Kind.TheVariants as kind
use Rattle.x509_flat.specs.declared.status.Status.TheVariants as answer

-- all zeros
abbrev pub no_verdict : Verdict
no_verdict = record { counts = replicate 10 0; headers = 0; error = 0; at = 0 }

-- what is told of a check that decoded so many headers: the counts, or why and where the bytes are refused
abbrev pub verdict_of : Result (List ℕ) Refused → ℕ → Verdict
verdict_of (Ok counts) headers = record { counts = counts; headers = headers; error = 0; at = 0 }
verdict_of (Err why) headers = record { counts = replicate 10 0; headers = headers; error = error_number why.error; at = why.at }

abbrev pub status_of_check : Result (List ℕ) Refused → Status
status_of_check (Ok counts) = answer.Done
status_of_check (Err why) = answer.Refused

-- the status and the verdict are those of one check of the bytes as a value of a type; memory is never refused, since none is asked for
pub record Tells {V : Type 0} (s : Shape V) (bytes : List ℕ) (status : Status) (verdict : Verdict) : Type 0 where
  pub outcome : Result (List ℕ) Refused
  pub headers : ℕ
  pub check : MeteredCheck s bytes outcome headers
  pub status_is : status ≡ status_of_check outcome
  pub verdict_is : verdict ≡ verdict_of outcome headers

-- the same of the type of a number
abbrev pub TellsOf : (A : Type 0) → Kind → List ℕ → Status → Verdict → Type 0
TellsOf A kind.Certificate bytes status verdict = Tells (certificate {A = A}) bytes status verdict
TellsOf A kind.Request bytes status verdict = Tells (request {A = A}) bytes status verdict
TellsOf A kind.PrivateKey bytes status verdict = Tells (private_key_info {A = A}) bytes status verdict
TellsOf A kind.PublicKey bytes status verdict = Tells (subject_public_key_info {A = A}) bytes status verdict
TellsOf A kind.RsaPrivateKey bytes status verdict = Tells (rsa_private_key {A = A}) bytes status verdict
TellsOf A kind.RsaPublicKey bytes status verdict = Tells (rsa_public_key {A = A}) bytes status verdict
TellsOf A kind.EcPrivateKey bytes status verdict = Tells (ec_private_key {A = A}) bytes status verdict
TellsOf A kind.Name bytes status verdict = Tells (name {A = A}) bytes status verdict
TellsOf A kind.Extensions bytes status verdict = Tells (extensions {A = A}) bytes status verdict
TellsOf A kind.Algorithm bytes status verdict = Tells (algorithm_identifier {A = A}) bytes status verdict
TellsOf A kind.RawAlgorithm bytes status verdict = Tells raw_algorithm bytes status verdict
TellsOf A kind.RequestInfo bytes status verdict = Tells (request_info {A = A}) bytes status verdict
TellsOf A kind.TbsCertificate bytes status verdict = Tells (tbs_certificate {A = A}) bytes status verdict
TellsOf A kind.CertificateOutline bytes status verdict = Tells (certificate_outline {A = A}) bytes status verdict
TellsOf A kind.RequestOutline bytes status verdict = Tells (request_outline {A = A}) bytes status verdict
TellsOf A kind.PrivateKeyOutline bytes status verdict = Tells (private_key_outline {A = A}) bytes status verdict
TellsOf A kind.PublicKeyOutline bytes status verdict = Tells (public_key_outline {A = A}) bytes status verdict
TellsOf A kind.Crl bytes status verdict = Tells (certificate_list {A = A}) bytes status verdict

-- What a signature covers, as it is told.
use Rattle.std.specs.Prelude.{◌≡◌, ℕ, ◌+◌, List, length, replicate}
use Rattle.x509_der.specs.FirstField.{FirstPart, StartsContent}
use Rattle.x509_der.specs.Shape.{Shape}
use Rattle.x509_der.specs.Tally.{Tally}
use Rattle.picky_asn1_x509.specs.Certificates.{certificate, certificate_parts, signature_fields}
use Rattle.picky_asn1_x509.specs.Requests.{request, request_info, request_parts}
use Rattle.picky_asn1_x509.specs.TbsCertificates.{tbs_certificate}
use Rattle.x509_list_outlines.specs.CertificateLists.{certificate_list, list_parts}
use Rattle.x509_list_outlines.specs.TbsCertLists.{tbs_list}
use Rattle.x509_more_outlines.specs.Requests.{request as request_outline, request_info as info_outline, request_parts as outline_of_request}
use Rattle.x509_outline.specs.Certificates.{certificate as certificate_outline, certificate_parts as outline_of_certificate, signature_fields as signature_outline}
use Rattle.x509_outline.specs.TbsCertificates.{tbs_certificate as tbs_outline}
use Rattle.x509_flat.specs.Spans.{no_span}
use Rattle.x509_flat.specs.Statuses.{OnlyReads}
use Rattle.x509_flat.specs.declared.signed_part.FlatSigned.{FlatSigned}
use Rattle.x509_flat.specs.declared.kind.Kind.{Kind}
use Rattle.x509_flat.specs.declared.kind.Kind.TheVariants as kind
use Rattle.x509_flat.specs.declared.status.Status.{Status}
use Rattle.x509_flat.specs.declared.status.Status.TheVariants as answer

-- all zeros
abbrev pub no_signed : FlatSigned
no_signed = record { part = no_span; inside = replicate 10 0; outside = replicate 10 0 }

-- a slice that stands behind so many bytes, and the counts inside and outside of it
pub record IsSigned (start : ℕ) (slice inside outside : List ℕ) (signed : FlatSigned) : Type 0 where
  pub from : signed.part.start ≡ start
  pub to : signed.part.end ≡ start + length slice
  pub counted : signed.inside ≡ inside
  pub others : signed.outside ≡ outside

-- the bytes encode a value whose first field stands there
pub record SignedIn {T V W : Type 0} (view : T → V × W) (a : Shape V) (b : Shape W) (bytes : List ℕ) (signed : FlatSigned) : Type 0 where
  pub value : T
  pub slice : List ℕ
  pub part : FirstPart view a b bytes value slice signed.inside signed.outside
  pub start : StartsContent bytes signed.part.start
  pub end : signed.part.end ≡ signed.part.start + length slice

-- what a status says of telling the signed part of bytes; memory is never refused
pub record SignedTold {T V W : Type 0} (s : Shape T) (view : T → V × W) (a : Shape V) (b : Shape W) (bytes : List ℕ) (status : Status) (signed : FlatSigned) : Type 0 where
  pub done : status ≡ answer.Done → SignedIn view a b bytes signed
  pub refused : status ≡ answer.Refused → (signed ≡ no_signed) × ((v : T) (y : Tally) → s.spelled v bytes y → ⊥)
  pub memory : status ≡ answer.OutOfMemory → ⊥
  pub others : OnlyReads status

-- the same of the type of a number, of which others than these aren't signed
abbrev pub SignedOf : (A : Type 0) → Kind → List ℕ → Status → FlatSigned → Type 0
SignedOf A kind.Certificate bytes status signed = SignedTold (certificate {A = A}) certificate_parts tbs_certificate signature_fields bytes status signed
SignedOf A kind.Request bytes status signed = SignedTold (request {A = A}) request_parts request_info signature_fields bytes status signed
SignedOf A kind.CertificateOutline bytes status signed = SignedTold (certificate_outline {A = A}) outline_of_certificate tbs_outline signature_outline bytes status signed
SignedOf A kind.RequestOutline bytes status signed = SignedTold (request_outline {A = A}) outline_of_request info_outline signature_outline bytes status signed
SignedOf A kind.Crl bytes status signed = SignedTold (certificate_list {A = A}) list_parts tbs_list signature_outline bytes status signed
SignedOf A _ bytes status signed = (status ≡ answer.UnknownKind) × (signed ≡ no_signed)

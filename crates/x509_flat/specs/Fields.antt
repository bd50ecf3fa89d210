-- Where fields stand, as it is told.
use Rattle.std.specs.Prelude.{◌≡◌, ℕ, List}
use Rattle.x509_der.specs.Calls.{IsWhole}
use Rattle.x509_der.specs.Shape.{Shape}
use Rattle.x509_der.specs.Tally.{Tally}
use Rattle.x509_keys.specs.PrivateKeyInfos.{private_key_info}
use Rattle.picky_asn1_x509.specs.Certificates.{certificate}
use Rattle.picky_asn1_x509.specs.Requests.{request}
use Rattle.x509_fields.specs.Certificates.{CertificateIn}
use Rattle.x509_fields.specs.Keys.{PrivateKeyIn}
use Rattle.x509_fields.specs.Requests.{RequestIn}
use Rattle.x509_fields.specs.declared.certificate.CertificateFields.{CertificateFields}
use Rattle.x509_fields.specs.declared.private_key.PrivateKeyInfoFields.{PrivateKeyInfoFields}
use Rattle.x509_fields.specs.declared.request.CertificationRequestFields.{CertificationRequestFields}
use Rattle.x509_outline.specs.Certificates.{certificate as certificate_outline}
use Rattle.x509_more_outlines.specs.PrivateKeys.{private_key as private_key_outline}
use Rattle.x509_more_outlines.specs.Requests.{request as request_outline}
use Rattle.x509_list_outlines.specs.CertificateLists.{certificate_list}
use Rattle.x509_outline_fields.specs.Certificates.{CertificateIn as CertificateOutlineIn}
use Rattle.x509_outline_fields.specs.Lists.{ListIn}
use Rattle.x509_outline_fields.specs.PrivateKeys.{PrivateKeyIn as PrivateKeyOutlineIn}
use Rattle.x509_outline_fields.specs.Requests.{RequestIn as RequestOutlineIn}
use Rattle.x509_outline_fields.specs.declared.list.CertificateListFields.{CertificateListFields}
use Rattle.x509_flat.specs.Spans.{flat_span, flat_span_if, no_span}
use Rattle.x509_flat.specs.Statuses.{OnlyReads}
use Rattle.x509_flat.specs.declared.certificate_fields.FlatCertificate.{FlatCertificate}
use Rattle.x509_flat.specs.declared.list_fields.FlatList.{FlatList}
use Rattle.x509_flat.specs.declared.private_key_fields.FlatPrivateKey.{FlatPrivateKey}
use Rattle.x509_flat.specs.declared.request_fields.FlatRequest.{FlatRequest}
use Rattle.x509_flat.specs.declared.status.Status.{Status}
use Rattle.x509_flat.specs.declared.status.Status.TheVariants as answer

abbrev pub flat_certificate : CertificateFields → FlatCertificate
flat_certificate at = record {
  tbs_certificate = flat_span at.tbs_certificate;
  version = flat_span_if at.fields.version;
  serial_number = flat_span at.fields.serial_number;
  signature = flat_span at.fields.signature;
  issuer = flat_span at.fields.issuer;
  validity = flat_span at.fields.validity;
  subject = flat_span at.fields.subject;
  subject_public_key_info = flat_span at.fields.subject_public_key_info;
  issuer_unique_id = flat_span_if at.fields.issuer_unique_id;
  subject_unique_id = flat_span_if at.fields.subject_unique_id;
  extensions = flat_span_if at.fields.extensions;
  signature_algorithm = flat_span at.signature_algorithm;
  signature_value = flat_span at.signature_value;
}

abbrev pub flat_request : CertificationRequestFields → FlatRequest
flat_request at = record {
  certification_request_info = flat_span at.certification_request_info;
  version = flat_span at.fields.version;
  subject = flat_span at.fields.subject;
  subject_public_key_info = flat_span at.fields.subject_public_key_info;
  attributes = flat_span at.fields.attributes;
  signature_algorithm = flat_span at.signature_algorithm;
  signature = flat_span at.signature;
}

abbrev pub flat_private_key : PrivateKeyInfoFields → FlatPrivateKey
flat_private_key at = record {
  version = flat_span at.version;
  private_key_algorithm = flat_span at.private_key_algorithm;
  private_key = flat_span at.private_key;
  skipped = flat_span_if at.skipped;
  public_key = flat_span_if at.public_key;
}

abbrev pub flat_list : CertificateListFields → FlatList
flat_list at = record {
  tbs_cert_list = flat_span at.tbs_cert_list;
  version = flat_span_if at.fields.version;
  signature = flat_span at.fields.signature;
  issuer = flat_span at.fields.issuer;
  this_update = flat_span at.fields.this_update;
  next_update = flat_span_if at.fields.next_update;
  revoked_certificates = flat_span_if at.fields.revoked_certificates;
  crl_extensions = flat_span_if at.fields.crl_extensions;
  signature_algorithm = flat_span at.signature_algorithm;
  signature_value = flat_span at.signature_value;
}

-- all zeros
abbrev pub no_certificate : FlatCertificate
no_certificate = record {
  tbs_certificate = no_span;
  version = no_span;
  serial_number = no_span;
  signature = no_span;
  issuer = no_span;
  validity = no_span;
  subject = no_span;
  subject_public_key_info = no_span;
  issuer_unique_id = no_span;
  subject_unique_id = no_span;
  extensions = no_span;
  signature_algorithm = no_span;
  signature_value = no_span;
}

abbrev pub no_request : FlatRequest
no_request = record {
  certification_request_info = no_span;
  version = no_span;
  subject = no_span;
  subject_public_key_info = no_span;
  attributes = no_span;
  signature_algorithm = no_span;
  signature = no_span;
}

abbrev pub no_private_key : FlatPrivateKey
no_private_key = record {
  version = no_span;
  private_key_algorithm = no_span;
  private_key = no_span;
  skipped = no_span;
  public_key = no_span;
}

abbrev pub no_list : FlatList
no_list = record {
  tbs_cert_list = no_span;
  version = no_span;
  signature = no_span;
  issuer = no_span;
  this_update = no_span;
  next_update = no_span;
  revoked_certificates = no_span;
  crl_extensions = no_span;
  signature_algorithm = no_span;
  signature_value = no_span;
}

-- a value that the bytes encode, whose fields stand at places of which a fact holds
pub record Fielded {V Places : Type 0} (s : Shape V) (bytes : List ℕ) (StandIn : V → Places → List ℕ → Tally → Type 0) (fact : Places → Type 0) : Type 0 where
  pub value : V
  pub tally : Tally
  pub whole : IsWhole s bytes value tally
  pub places : Places
  pub stand : StandIn value places bytes tally
  pub holds : fact places

-- what a status says of telling where fields stand; memory is never refused
pub record FieldsTold {V Places Flat : Type 0} (s : Shape V) (bytes : List ℕ) (StandIn : V → Places → List ℕ → Tally → Type 0) (flat : Places → Flat) (none : Flat) (status : Status) (fields : Flat) : Type 0 where
  pub done : status ≡ answer.Done → Fielded s bytes StandIn (λ at. fields ≡ flat at)
  pub refused : status ≡ answer.Refused → (fields ≡ none) × ((v : V) (y : Tally) → s.spelled v bytes y → ⊥)
  pub memory : status ≡ answer.OutOfMemory → ⊥
  pub others : OnlyReads status

abbrev pub CertificateTold : (A : Type 0) → List ℕ → Status → FlatCertificate → Type 0
CertificateTold A bytes status fields = FieldsTold (certificate {A = A}) bytes CertificateIn flat_certificate no_certificate status fields

abbrev pub RequestTold : (A : Type 0) → List ℕ → Status → FlatRequest → Type 0
RequestTold A bytes status fields = FieldsTold (request {A = A}) bytes RequestIn flat_request no_request status fields

abbrev pub PrivateKeyTold : (A : Type 0) → List ℕ → Status → FlatPrivateKey → Type 0
PrivateKeyTold A bytes status fields = FieldsTold (private_key_info {A = A}) bytes PrivateKeyIn flat_private_key no_private_key status fields

-- the same of what is read in outline
abbrev pub CertificateOutlineTold : (A : Type 0) → List ℕ → Status → FlatCertificate → Type 0
CertificateOutlineTold A bytes status fields = FieldsTold (certificate_outline {A = A}) bytes CertificateOutlineIn flat_certificate no_certificate status fields

abbrev pub RequestOutlineTold : (A : Type 0) → List ℕ → Status → FlatRequest → Type 0
RequestOutlineTold A bytes status fields = FieldsTold (request_outline {A = A}) bytes RequestOutlineIn flat_request no_request status fields

abbrev pub PrivateKeyOutlineTold : (A : Type 0) → List ℕ → Status → FlatPrivateKey → Type 0
PrivateKeyOutlineTold A bytes status fields = FieldsTold (private_key_outline {A = A}) bytes PrivateKeyOutlineIn flat_private_key no_private_key status fields

abbrev pub RevocationListTold : (A : Type 0) → List ℕ → Status → FlatList → Type 0
RevocationListTold A bytes status fields = FieldsTold (certificate_list {A = A}) bytes ListIn flat_list no_list status fields

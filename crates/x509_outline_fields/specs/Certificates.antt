-- Where the fields of the outline of a certificate stand (RFC 5280, 4.1).
use Rattle.std.specs.Prelude.{◌≡◌, ℕ, List, Option}
use Rattle.x509_der.specs.BitString.{bit_strings}
use Rattle.x509_der.specs.Integer.{integers}
use Rattle.x509_der.specs.Tagged.{tagged}
use Rattle.x509_der.specs.Tally.{Tally}
use Rattle.x509_names.specs.Types.{Version}
use Rattle.x509_names.specs.Validities.{validity}
use Rattle.x509_outline_parts.specs.Algorithms.{algorithm}
use Rattle.x509_outline_parts.specs.Names.{name}
use Rattle.x509_outline_parts.specs.PublicKeys.{public_key}
use Rattle.x509_outline_parts.specs.declared.extension_outline.ExtensionOutline.{ExtensionOutline}
use Rattle.x509_outline.specs.TbsCertificates.{TbsFields, required_of, version_field, issuer_id_field, subject_id_field, extensions_field, tbs_certificate}
use Rattle.x509_outline.specs.Versions.{version_in, list_in}
use Rattle.x509_outline.specs.declared.certificate_outline.CertificateOutline.{CertificateOutline}
use Rattle.x509_outline.specs.declared.tbs_certificate_outline.TbsCertificateOutline.{TbsCertificateOutline}
use Rattle.x509_fields.specs.Certificates.{tbs_spans, certificate_spans}
use Rattle.x509_fields.specs.Spans.{FieldIn, OptionalIn, Fill, all_of}
use Rattle.x509_fields.specs.declared.certificate.TbsCertificateFields.{TbsCertificateFields}
use Rattle.x509_fields.specs.declared.certificate.CertificateFields.{CertificateFields}

-- each field as it is encoded, the version and the extensions under their tags
pub record TbsFieldsIn {A : Type 0} (f : TbsFields A) (at : TbsCertificateFields) (string : List ℕ) (whole : Tally) : Type 0 where
  pub version : OptionalIn version_field f.0 at.version string whole
  pub serial_number : FieldIn (tagged 2 integers) f.1.0.0 at.serial_number string whole
  pub signature : FieldIn algorithm f.1.0.1.0 at.signature string whole
  pub issuer : FieldIn name f.1.0.1.1.0 at.issuer string whole
  pub validity : FieldIn validity f.1.0.1.1.1.0 at.validity string whole
  pub subject : FieldIn name f.1.0.1.1.1.1.0 at.subject string whole
  pub subject_public_key_info : FieldIn public_key f.1.0.1.1.1.1.1 at.subject_public_key_info string whole
  pub issuer_unique_id : OptionalIn issuer_id_field f.1.1.0 at.issuer_unique_id string whole
  pub subject_unique_id : OptionalIn subject_id_field f.1.1.1.0 at.subject_unique_id string whole
  pub extensions : OptionalIn extensions_field f.1.1.1.1 at.extensions string whole

-- those of a value, whose version and extensions may be left out
pub record TbsIn {A : Type 0} (v : TbsCertificateOutline A) (at : TbsCertificateFields) (string : List ℕ) (whole : Tally) : Type 0 where
  pub version : Option Version
  pub version_means : version_in version ≡ v.version
  pub extensions : Option (List (ExtensionOutline A))
  pub extensions_mean : list_in extensions ≡ v.extensions
  pub fields : TbsFieldsIn (version, (required_of v, (v.issuer_unique_id, (v.subject_unique_id, extensions)))) at string whole

pub record CertificateIn {A : Type 0} (v : CertificateOutline A) (at : CertificateFields) (string : List ℕ) (whole : Tally) : Type 0 where
  pub tbs_certificate : FieldIn tbs_certificate v.tbs_certificate at.tbs_certificate string whole
  pub fields : TbsIn v.tbs_certificate at.fields string whole
  pub signature_algorithm : FieldIn algorithm v.signature_algorithm at.signature_algorithm string whole
  pub signature_value : FieldIn (tagged 3 bit_strings) v.signature_value at.signature_value string whole
  pub fill : Fill string (all_of string) (certificate_spans at)
  pub signed : Fill string at.tbs_certificate (tbs_spans at.fields)

-- Where the fields of a revocation list stand (RFC 5280, 5.1).
use Rattle.std.specs.Prelude.{◌≡◌, ℕ, List, [], ◌∷◌, Option, Some}
use Rattle.x509_der.specs.BitString.{bit_strings}
use Rattle.x509_der.specs.Tagged.{tagged}
use Rattle.x509_der.specs.Tally.{Tally}
use Rattle.x509_names.specs.Time.{time}
use Rattle.x509_names.specs.Types.{Version}
use Rattle.x509_names.specs.Versions.{version}
use Rattle.x509_outline_parts.specs.Algorithms.{algorithm}
use Rattle.x509_outline_parts.specs.Names.{name}
use Rattle.x509_outline_parts.specs.declared.extension_outline.ExtensionOutline.{ExtensionOutline}
use Rattle.x509_outline.specs.Versions.{version_in, list_in}
use Rattle.x509_list_outlines.specs.TbsCertLists.{TbsListFields, required_of, revoked_list, extensions_field, tbs_list}
use Rattle.x509_list_outlines.specs.declared.certificate_list_outline.CertificateListOutline.{CertificateListOutline}
use Rattle.x509_list_outlines.specs.declared.tbs_cert_list_outline.TbsCertListOutline.{TbsCertListOutline}
use Rattle.x509_fields.specs.Spans.{FieldIn, OptionalIn, Fill, all_of}
use Rattle.x509_fields.specs.declared.span.Span.{Span}
use Rattle.x509_outline_fields.specs.declared.list.CertificateListFields.{CertificateListFields}
use Rattle.x509_outline_fields.specs.declared.list.TbsCertListFields.{TbsCertListFields}

-- the fields of what is signed, in the order of their definition
abbrev pub tbs_list_spans : TbsCertListFields → List (Option Span)
tbs_list_spans at =
    at.version
    ∷ Some at.signature
    ∷ Some at.issuer
    ∷ Some at.this_update
    ∷ at.next_update
    ∷ at.revoked_certificates
    ∷ at.crl_extensions
    ∷ []

-- and those of the list
abbrev pub list_spans : CertificateListFields → List (Option Span)
list_spans at = Some at.tbs_cert_list ∷ Some at.signature_algorithm ∷ Some at.signature_value ∷ []

-- each field as it is encoded, the extensions under their tag
pub record TbsListFieldsIn {A : Type 0} (f : TbsListFields A) (at : TbsCertListFields) (string : List ℕ) (whole : Tally) : Type 0 where
  pub version : OptionalIn version f.0 at.version string whole
  pub signature : FieldIn algorithm f.1.0.0 at.signature string whole
  pub issuer : FieldIn name f.1.0.1.0 at.issuer string whole
  pub this_update : FieldIn time f.1.0.1.1 at.this_update string whole
  pub next_update : OptionalIn time f.1.1.0 at.next_update string whole
  pub revoked_certificates : OptionalIn revoked_list f.1.1.1.0 at.revoked_certificates string whole
  pub crl_extensions : OptionalIn extensions_field f.1.1.1.1 at.crl_extensions string whole

-- those of a value, whose version and extensions may be left out
pub record TbsListIn {A : Type 0} (v : TbsCertListOutline A) (at : TbsCertListFields) (string : List ℕ) (whole : Tally) : Type 0 where
  pub version_spelled : Option Version
  pub version_means : version_in version_spelled ≡ v.version
  pub extensions_spelled : Option (List (ExtensionOutline A))
  pub extensions_mean : list_in extensions_spelled ≡ v.crl_extensions
  pub fields : TbsListFieldsIn (version_spelled, (required_of v, (v.next_update, (v.revoked_certificates, extensions_spelled)))) at string whole

pub record ListIn {A : Type 0} (v : CertificateListOutline A) (at : CertificateListFields) (string : List ℕ) (whole : Tally) : Type 0 where
  pub tbs_cert_list : FieldIn tbs_list v.tbs_cert_list at.tbs_cert_list string whole
  pub fields : TbsListIn v.tbs_cert_list at.fields string whole
  pub signature_algorithm : FieldIn algorithm v.signature_algorithm at.signature_algorithm string whole
  pub signature_value : FieldIn (tagged 3 bit_strings) v.signature_value at.signature_value string whole
  pub fill : Fill string (all_of string) (list_spans at)
  pub signed : Fill string at.tbs_cert_list (tbs_list_spans at.fields)

-- Where the fields of the outline of a request stand (RFC 2986, 4).
use Rattle.std.specs.Prelude.{ℕ, List}
use Rattle.x509_der.specs.BitString.{bit_strings}
use Rattle.x509_der.specs.SmallInteger.{small_integers}
use Rattle.x509_der.specs.Tagged.{tagged}
use Rattle.x509_der.specs.Tally.{Tally}
use Rattle.x509_outline_parts.specs.Algorithms.{algorithm}
use Rattle.x509_outline_parts.specs.AttributeValues.{attributes_field}
use Rattle.x509_outline_parts.specs.Names.{name}
use Rattle.x509_outline_parts.specs.PublicKeys.{public_key}
use Rattle.x509_more_outlines.specs.Requests.{InfoFields, info_parts, request_info}
use Rattle.x509_more_outlines.specs.declared.request_outline.RequestOutline.{RequestOutline}
use Rattle.x509_fields.specs.Requests.{info_spans, request_spans}
use Rattle.x509_fields.specs.Spans.{FieldIn, Fill, all_of}
use Rattle.x509_fields.specs.declared.request.CertificationRequestInfoFields.{CertificationRequestInfoFields}
use Rattle.x509_fields.specs.declared.request.CertificationRequestFields.{CertificationRequestFields}

-- each field as it is encoded, the attributes under their tag
pub record InfoFieldsIn {A : Type 0} (f : InfoFields A) (at : CertificationRequestInfoFields) (string : List ℕ) (whole : Tally) : Type 0 where
  pub version : FieldIn (tagged 2 small_integers) f.0 at.version string whole
  pub subject : FieldIn name f.1.0 at.subject string whole
  pub subject_public_key_info : FieldIn public_key f.1.1.0 at.subject_public_key_info string whole
  pub attributes : FieldIn attributes_field f.1.1.1 at.attributes string whole

pub record RequestIn {A : Type 0} (v : RequestOutline A) (at : CertificationRequestFields) (string : List ℕ) (whole : Tally) : Type 0 where
  pub certification_request_info : FieldIn request_info v.certification_request_info at.certification_request_info string whole
  pub fields : InfoFieldsIn (info_parts v.certification_request_info) at.fields string whole
  pub signature_algorithm : FieldIn algorithm v.signature_algorithm at.signature_algorithm string whole
  pub signature : FieldIn (tagged 3 bit_strings) v.signature at.signature string whole
  pub fill : Fill string (all_of string) (request_spans at)
  pub signed : Fill string at.certification_request_info (info_spans at.fields)

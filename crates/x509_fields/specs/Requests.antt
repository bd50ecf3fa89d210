-- Where the fields of a request stand (RFC 2986, 4).
use Rattle.std.specs.Prelude.{ℕ, List, [], ◌∷◌, Option, Some}
use Rattle.x509_der.specs.BitString.{bit_strings}
use Rattle.x509_der.specs.SmallInteger.{small_integers}
use Rattle.x509_der.specs.Tagged.{tagged}
use Rattle.x509_der.specs.Tally.{Tally}
use Rattle.x509_names.specs.Names.{name}
use Rattle.x509_keys.specs.AlgorithmIdentifier.{algorithm_identifier}
use Rattle.x509_keys.specs.SubjectPublicKeyInfos.{subject_public_key_info}
use Rattle.picky_asn1_x509.specs.Requests.{InfoFields, info_parts, request_attributes, request_info}
use Rattle.picky_asn1_x509.specs.declared.certification_request.CertificationRequest.{CertificationRequest}
use Rattle.x509_fields.specs.Spans.{FieldIn, Fill, all_of}
use Rattle.x509_fields.specs.declared.request.CertificationRequestInfoFields.{CertificationRequestInfoFields}
use Rattle.x509_fields.specs.declared.request.CertificationRequestFields.{CertificationRequestFields}
use Rattle.x509_fields.specs.declared.span.Span.{Span}

-- the fields of what is signed, in the order of their definition
abbrev pub info_spans : CertificationRequestInfoFields → List (Option Span)
info_spans at = Some at.version ∷ Some at.subject ∷ Some at.subject_public_key_info ∷ Some at.attributes ∷ []

-- and those of the request
abbrev pub request_spans : CertificationRequestFields → List (Option Span)
request_spans at = Some at.certification_request_info ∷ Some at.signature_algorithm ∷ Some at.signature ∷ []

-- each field as it is encoded, the attributes under their tag
pub record InfoFieldsIn {A : Type 0} (f : InfoFields A) (at : CertificationRequestInfoFields) (string : List ℕ) (whole : Tally) : Type 0 where
  pub version : FieldIn (tagged 2 small_integers) f.0 at.version string whole
  pub subject : FieldIn name f.1.0 at.subject string whole
  pub subject_public_key_info : FieldIn subject_public_key_info f.1.1.0 at.subject_public_key_info string whole
  pub attributes : FieldIn request_attributes f.1.1.1 at.attributes string whole

pub record RequestIn {A : Type 0} (v : CertificationRequest A) (at : CertificationRequestFields) (string : List ℕ) (whole : Tally) : Type 0 where
  pub certification_request_info : FieldIn request_info v.certification_request_info at.certification_request_info string whole
  pub fields : InfoFieldsIn (info_parts v.certification_request_info) at.fields string whole
  pub signature_algorithm : FieldIn algorithm_identifier v.signature_algorithm at.signature_algorithm string whole
  pub signature : FieldIn (tagged 3 bit_strings) v.signature at.signature string whole
  pub fill : Fill string (all_of string) (request_spans at)
  pub signed : Fill string at.certification_request_info (info_spans at.fields)

-- Requests with the same parts are the same, and what is written of one.
use Rattle.std.proofs.Common.{◌≡◌, ◌++◌, List, ap}
use Rattle.x509_der.specs.Element.{element}
use Rattle.x509_der.specs.SmallInteger.{small_integer_content}
use Rattle.x509_der.specs.facts.Lists.{same_append}
use Rattle.x509_der.specs.laws.StrictSpelling.{agree_items}
use Rattle.x509_names.specs.facts.NameFacts.{name_agrees}
use Rattle.x509_keys.specs.facts.SubjectPublicKeyInfos.{subject_agrees}
use Rattle.picky_asn1_x509_parts.specs.Attribute.{attribute, attribute_bytes}
use Rattle.picky_asn1_x509_parts.specs.facts.AttributeFacts.{attribute_agrees}
use Rattle.picky_asn1_x509_parts.specs.declared.attribute.Attribute.{Attribute}
use Rattle.picky_asn1_x509.specs.Requests.{InfoFields, info_parts, request_info, info_bytes, request_attributes, request_attributes_bytes, RequestFields, request_parts, request, request_bytes}
use Rattle.picky_asn1_x509.specs.declared.certification_request.CertificationRequest.{CertificationRequest}
use Rattle.picky_asn1_x509.specs.declared.certification_request.CertificationRequestInfo.{CertificationRequestInfo}
use Rattle.picky_asn1_x509.specs.facts.Certificates.{signature_agrees}

pub request_attributes_agree : {A : Type 0} (list : List (Attribute A)) → request_attributes.strict list ≡ request_attributes_bytes list
request_attributes_agree list = ap (element 160) (agree_items attribute attribute_bytes attribute_agrees list)

abbrev pub info_from : {A : Type 0} → InfoFields A → CertificationRequestInfo A
info_from f = record { version = f.0; subject = f.1.0; subject_public_key_info = f.1.1.0; attributes = f.1.1.1 }

pub info_same : {A : Type 0} (v w : CertificationRequestInfo A) → info_parts v ≡ info_parts w → v ≡ w
info_same v w e = ap info_from e

pub info_agrees : {A : Type 0} (v : CertificationRequestInfo A) → request_info.strict v ≡ info_bytes v
info_agrees v =
    ap (λ x. element 48 (element 2 (small_integer_content v.version) ++ x))
    (same_append (name_agrees v.subject) (same_append (subject_agrees v.subject_public_key_info) (request_attributes_agree v.attributes)))

abbrev pub request_from : {A : Type 0} → RequestFields A → CertificationRequest A
request_from f = record { certification_request_info = f.0; signature_algorithm = f.1.0; signature = f.1.1 }

pub request_same : {A : Type 0} (v w : CertificationRequest A) → request_parts v ≡ request_parts w → v ≡ w
request_same v w e = ap request_from e

pub request_agrees : {A : Type 0} (v : CertificationRequest A) → request.strict v ≡ request_bytes v
request_agrees v = ap (element 48) (same_append (info_agrees v.certification_request_info) (signature_agrees (v.signature_algorithm, v.signature)))

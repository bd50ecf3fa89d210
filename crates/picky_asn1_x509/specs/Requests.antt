-- Requests for certificates (RFC 2986, 4).
use Rattle.std.specs.Prelude.{ℕ, List, [], ◌++◌}
use Rattle.std.specs.List.{flat_map}
use Rattle.x509_der.specs.Element.{element}
use Rattle.x509_der.specs.Items.{items}
use Rattle.x509_der.specs.Join.{join}
use Rattle.x509_der.specs.Shape.{Shape}
use Rattle.x509_der.specs.SmallInteger.{small_integers, small_integer_content}
use Rattle.x509_der.specs.Structure.{structure}
use Rattle.x509_der.specs.Tagged.{tagged}
use Rattle.x509_names.specs.Names.{Sets, name, name_bytes}
use Rattle.x509_keys.specs.SubjectPublicKeyInfos.{subject_public_key_info, subject_bytes}
use Rattle.x509_keys.specs.declared.subject_public_key_info.SubjectPublicKeyInfo.{SubjectPublicKeyInfo}
use Rattle.picky_asn1_x509_parts.specs.Attribute.{attribute, attribute_bytes}
use Rattle.picky_asn1_x509_parts.specs.declared.attribute.Attribute.{Attribute}
use Rattle.picky_asn1_x509.specs.Certificates.{SignatureFields, signature_fields, signature_bytes}
use Rattle.picky_asn1_x509.specs.declared.certification_request.CertificationRequest.{CertificationRequest}
use Rattle.picky_asn1_x509.specs.declared.certification_request.CertificationRequestInfo.{CertificationRequestInfo}

-- attributes [0] IMPLICIT Attributes, which is a list (RFC 2986, 4.1); the tag is asked for, also of an empty list
abbrev pub request_attributes : {A : Type 0} → Shape (List (Attribute A))
request_attributes = tagged 160 (items attribute)

abbrev pub request_attributes_bytes : {A : Type 0} → List (Attribute A) → List ℕ
request_attributes_bytes list = element 160 (flat_map attribute_bytes list)

-- the fields as they stand in the SEQUENCE
abbrev pub InfoFields : Type 0 → Type 0
InfoFields A = ℕ × (Sets A × (SubjectPublicKeyInfo A × List (Attribute A)))

abbrev pub info_parts : {A : Type 0} → CertificationRequestInfo A → InfoFields A
info_parts v = (v.version, (v.subject, (v.subject_public_key_info, v.attributes)))

-- version INTEGER (0..255), subject Name, subjectPKInfo SubjectPublicKeyInfo, attributes
abbrev pub info_inner : {A : Type 0} → Shape (InfoFields A)
info_inner =
    join (λ j. j.0) (λ j. j.1) (tagged 2 small_integers)
    (join (λ j. j.0) (λ j. j.1) name
    (join (λ j. j.0) (λ j. j.1) subject_public_key_info request_attributes))

-- CertificationRequestInfo ::= SEQUENCE { version INTEGER, subject Name, subjectPKInfo SubjectPublicKeyInfo, attributes [0]
-- IMPLICIT SET OF Attribute } (RFC 2986, 4.1); the order of the attributes is kept
abbrev pub info_base : {A : Type 0} → Shape (InfoFields A)
info_base = tagged 48 info_inner

abbrev pub request_info : {A : Type 0} → Shape (CertificationRequestInfo A)
request_info = structure info_parts info_base

abbrev pub info_bytes : {A : Type 0} → CertificationRequestInfo A → List ℕ
info_bytes v = element 48 (element 2 (small_integer_content v.version) ++ (element 48 (name_bytes v.subject) ++ (subject_bytes v.subject_public_key_info ++ request_attributes_bytes v.attributes)))

-- version 0, and no attributes
abbrev pub new_info : {A : Type 0} → Sets A → SubjectPublicKeyInfo A → CertificationRequestInfo A
new_info subject key = record { version = 0; subject = subject; subject_public_key_info = key; attributes = [] }

-- the same with other attributes
abbrev pub with_attributes : {A : Type 0} → CertificationRequestInfo A → List (Attribute A) → CertificationRequestInfo A
with_attributes v list = record { version = v.version; subject = v.subject; subject_public_key_info = v.subject_public_key_info; attributes = list }

abbrev pub RequestFields : Type 0 → Type 0
RequestFields A = CertificationRequestInfo A × SignatureFields A

abbrev pub request_parts : {A : Type 0} → CertificationRequest A → RequestFields A
request_parts v = (v.certification_request_info, (v.signature_algorithm, v.signature))

-- CertificationRequest ::= SEQUENCE { certificationRequestInfo CertificationRequestInfo, signatureAlgorithm
-- AlgorithmIdentifier, signature BIT STRING } (RFC 2986, 4.2)
abbrev pub request_base : {A : Type 0} → Shape (RequestFields A)
request_base = tagged 48 (join (λ j. j.0) (λ j. j.1) request_info signature_fields)

abbrev pub request : {A : Type 0} → Shape (CertificationRequest A)
request = structure request_parts request_base

abbrev pub request_bytes : {A : Type 0} → CertificationRequest A → List ℕ
request_bytes v = element 48 (info_bytes v.certification_request_info ++ signature_bytes (v.signature_algorithm, v.signature))

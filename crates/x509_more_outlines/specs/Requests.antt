-- Requests for certificates with names, algorithms, keys and attributes of any kind (RFC 2986, 4).
use Rattle.std.proofs.Common.{◌≡◌, ℕ, ◌+◌, List, ◌++◌, length}
use Rattle.x509_der.specs.Element.{element, header}
use Rattle.x509_der.specs.Fields.{Stands}
use Rattle.x509_der.specs.Join.{join}
use Rattle.x509_der.specs.Shape.{Shape}
use Rattle.x509_der.specs.SmallInteger.{small_integers}
use Rattle.x509_der.specs.Structure.{structure}
use Rattle.x509_der.specs.Tagged.{tagged}
use Rattle.x509_der.specs.Tally.{Tally}
use Rattle.x509_outline.specs.Certificates.{SignatureFields, signature_fields}
use Rattle.x509_outline_parts.specs.AttributeValues.{attributes_field}
use Rattle.x509_outline_parts.specs.Names.{Sets, name}
use Rattle.x509_outline_parts.specs.PublicKeys.{public_key}
use Rattle.x509_outline_parts.specs.declared.attribute_values_outline.AttributeValuesOutline.{AttributeValuesOutline}
use Rattle.x509_outline_parts.specs.declared.public_key_outline.PublicKeyOutline.{PublicKeyOutline}
use Rattle.x509_more_outlines.specs.declared.request_info_outline.RequestInfoOutline.{RequestInfoOutline}
use Rattle.x509_more_outlines.specs.declared.request_outline.RequestOutline.{RequestOutline}

-- the key, and the attributes behind it
abbrev pub EndFields : Type 0 → Type 0
EndFields A = PublicKeyOutline A × List (AttributeValuesOutline A)

-- the fields as they stand in the SEQUENCE
abbrev pub InfoFields : Type 0 → Type 0
InfoFields A = ℕ × (Sets A × EndFields A)

abbrev pub end_parts : {A : Type 0} → RequestInfoOutline A → EndFields A
end_parts v = (v.subject_public_key_info, v.attributes)

abbrev pub info_parts : {A : Type 0} → RequestInfoOutline A → InfoFields A
info_parts v = (v.version, (v.subject, end_parts v))

-- subjectPKInfo SubjectPublicKeyInfo, attributes [0] Attributes; the tag is asked for, also of an empty set
abbrev pub info_end : {A : Type 0} → Shape (EndFields A)
info_end = join (λ j. j.0) (λ j. j.1) public_key attributes_field

-- version INTEGER (0..255), subject Name, subjectPKInfo SubjectPublicKeyInfo, attributes [0] Attributes
abbrev pub info_inner : {A : Type 0} → Shape (InfoFields A)
info_inner =
    join (λ j. j.0) (λ j. j.1) (tagged 2 small_integers)
    (join (λ j. j.0) (λ j. j.1) name info_end)

-- CertificationRequestInfo ::= SEQUENCE { version INTEGER, subject Name, subjectPKInfo SubjectPublicKeyInfo, attributes [0]
-- IMPLICIT SET OF Attribute } (RFC 2986, 4.1); the order of the attributes is kept
abbrev pub info_base : {A : Type 0} → Shape (InfoFields A)
info_base = tagged 48 info_inner

abbrev pub request_info : {A : Type 0} → Shape (RequestInfoOutline A)
request_info = structure info_parts info_base

abbrev pub RequestFields : Type 0 → Type 0
RequestFields A = RequestInfoOutline A × SignatureFields A

abbrev pub request_parts : {A : Type 0} → RequestOutline A → RequestFields A
request_parts v = (v.certification_request_info, (v.signature_algorithm, v.signature))

-- CertificationRequest ::= SEQUENCE { certificationRequestInfo CertificationRequestInfo, signatureAlgorithm
-- AlgorithmIdentifier, signature BIT STRING } (RFC 2986, 4.2)
abbrev pub request_base : {A : Type 0} → Shape (RequestFields A)
request_base = tagged 48 (join (λ j. j.0) (λ j. j.1) request_info signature_fields)

abbrev pub request : {A : Type 0} → Shape (RequestOutline A)
request = structure request_parts request_base

-- each field, with its tag, behind those before it
pub record InfoAt {A : Type 0} (v : RequestInfoOutline A) (string : List ℕ) (y : Tally) : Type 0 where
  pub content : List ℕ
  pub bytes : string ≡ element 48 content
  pub fields : Stands info_inner (info_parts v) (header content) content string y

-- the signed part right behind the header, and behind it the algorithm and the signature
pub record RequestAt {A : Type 0} (v : RequestOutline A) (string : List ℕ) (y : Tally) : Type 0 where
  pub content : List ℕ
  pub bytes : string ≡ element 48 content
  pub signed : List ℕ
  pub signatures : List ℕ
  pub fields : content ≡ signed ++ signatures
  pub signed_at : Stands request_info v.certification_request_info (header content) signed string y
  pub signature_at : Stands signature_fields (v.signature_algorithm, v.signature) (header content + length signed) signatures string y

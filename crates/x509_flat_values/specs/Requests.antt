-- What is told of the subject and of the attributes of a request (RFC 2986, 4.1).
use Rattle.std.specs.Prelude.{◌≡◌, ℕ, ◌+◌, List, ◌++◌, length}
use Rattle.x509_der.specs.Calls.{IsWhole}
use Rattle.x509_der.specs.Element.{element, header}
use Rattle.x509_der.specs.Fields.{FieldAt}
use Rattle.x509_der.specs.ObjectIdentifier.{oids}
use Rattle.x509_der.specs.Tagged.{tagged}
use Rattle.x509_der.specs.Tally.{Tally}
use Rattle.x509_names.specs.Names.{name}
use Rattle.picky_asn1_x509.specs.Requests.{request, request_attributes}
use Rattle.picky_asn1_x509_parts.specs.Attribute.{attribute, by_kind, kind_of}
use Rattle.picky_asn1_x509_parts.specs.declared.attribute.Attribute.{Attribute}
use Rattle.picky_asn1_x509.specs.declared.certification_request.CertificationRequest.{CertificationRequest}
use Rattle.x509_fields.specs.Spans.{FieldIn}
use Rattle.x509_fields.specs.declared.span.Span.{Span}
use Rattle.x509_values.specs.Names.{NameTold}
use Rattle.x509_values.specs.Told.{Fills, HeldIn}
use Rattle.x509_values.specs.declared.attributes.AttributePlace.{AttributePlace}
use Rattle.x509_flat.specs.Values.{FrontFilled}
use Rattle.x509_flat.specs.declared.status.Status.{Status}
use Rattle.x509_flat_values.specs.Lists.{ListTold}
use Rattle.x509_flat_values.specs.declared.request_attributes.RequestAttributePlace.{RequestAttributePlace}

-- of the request that the bytes encode, the attributes of its subject are told, which stands in a span
pub record SubjectHeld (A : Type 0) (bytes : List ℕ) (old new : List AttributePlace) (count : ℕ) : Type 0 where
  pub value : CertificationRequest A
  pub tally : Tally
  pub whole : IsWhole (request {A = A}) bytes value tally
  pub span : Span
  pub stands : FieldIn name value.certification_request_info.subject span bytes tally
  pub told : Fills (NameTold value.certification_request_info.subject span.start stands.slice bytes tally) old new count

abbrev pub SubjectFills : (A : Type 0) → List ℕ → List AttributePlace → List AttributePlace → Status → ℕ → Type 0
SubjectFills A bytes old new status count = FrontFilled (request {A = A}) bytes (SubjectHeld A bytes old new) old new status count

-- of an attribute in the slice, which stands behind so many bytes: the content of its type, which is an OBJECT IDENTIFIER, and what stands in its values, with their tag
pub record RequestAttributeTold {A : Type 0} (string : List ℕ) (whole : Tally) (v : Attribute A) (n : ℕ) (slice : List ℕ) (at : RequestAttributePlace) : Type 0 where
  pub content : List ℕ
  pub types : List ℕ
  pub sets : List ℕ
  pub bytes : slice ≡ element 48 content
  pub fields : content ≡ types ++ sets
  pub type_at : FieldAt (tagged 6 oids) v.ty (n + header content) types string whole
  pub values_at : FieldAt (by_kind (kind_of v.ty)) v.value ((n + header content) + length types) sets string whole
  pub identifier : HeldIn 6 types (n + header content) at.identifier
  pub values : HeldIn at.tag sets ((n + header content) + length types) at.values

-- of the request that the bytes encode, its attributes are told, which stand in a span
pub record AttributesHeld (A : Type 0) (bytes : List ℕ) (old new : List RequestAttributePlace) (count : ℕ) : Type 0 where
  pub value : CertificationRequest A
  pub tally : Tally
  pub whole : IsWhole (request {A = A}) bytes value tally
  pub span : Span
  pub stands : FieldIn request_attributes value.certification_request_info.attributes span bytes tally
  pub told : Fills (ListTold 160 attribute RequestAttributeTold value.certification_request_info.attributes span.start stands.slice bytes tally) old new count

abbrev pub AttributesFill : (A : Type 0) → List ℕ → List RequestAttributePlace → List RequestAttributePlace → Status → ℕ → Type 0
AttributesFill A bytes old new status count = FrontFilled (request {A = A}) bytes (AttributesHeld A bytes old new) old new status count

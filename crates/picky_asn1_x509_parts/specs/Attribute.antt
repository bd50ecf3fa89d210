-- Attributes of requests and of signed messages: an object identifier, which says what the values are, and a set of
-- them (RFC 2986, 4.1).
use Rattle.std.specs.Prelude.{◌≡◌, ℕ, ◌+◌, length, true, false, if◌then◌else◌, List, [], ◌∷◌, ◌++◌}
use Rattle.std.specs.List.{flat_map}
use Rattle.x509_der.specs.DefinedBy.{defined_by}
use Rattle.x509_der.specs.Element.{element, header}
use Rattle.x509_der.specs.Fields.{FieldAt, Stands}
use Rattle.x509_der.specs.Items.{items}
use Rattle.x509_der.specs.ObjectIdentifier.{is_arcs, oids, oid_content}
use Rattle.x509_der.specs.PrimitiveContent.{octets}
use Rattle.x509_der.specs.RawElement.{raws}
use Rattle.x509_der.specs.Shape.{Shape}
use Rattle.x509_der.specs.Structure.{structure}
use Rattle.x509_der.specs.Tagged.{tagged}
use Rattle.x509_der.specs.Tally.{Tally}
use Rattle.x509_der.specs.Variant.{variant}
use Rattle.x509_prim.specs.Calendar.{Moment}
use Rattle.x509_prim.specs.Times.{utc_times}
use Rattle.picky_asn1_x509_parts.specs.Extensions.{ExtensionFields}
use Rattle.picky_asn1_x509_parts.specs.ExtensionLists.{extensions, extensions_bytes}
use Rattle.picky_asn1_x509_parts.specs.declared.attribute.AttributeKind.{AttributeKind}
use Rattle.picky_asn1_x509_parts.specs.declared.attribute.AttributeValues.{AttributeValues}
use Rattle.picky_asn1_x509_parts.specs.declared.attribute.Attribute.{Attribute}
use Rattle.picky_asn1_x509_parts.specs.declared.attribute.AttributeKind.TheVariants as kinds
use Rattle.picky_asn1_x509_parts.specs.declared.attribute.AttributeValues.TheVariants as value

-- the object identifiers of the attributes whose values are known
-- extensionRequest (RFC 2985, 5.4.2)
abbrev pub extension_request_arcs : List ℕ
extension_request_arcs = 1 ∷ 2 ∷ 840 ∷ 113549 ∷ 1 ∷ 9 ∷ 14 ∷ []

-- contentType (RFC 2985, 5.3.1)
abbrev pub content_type_arcs : List ℕ
content_type_arcs = 1 ∷ 2 ∷ 840 ∷ 113549 ∷ 1 ∷ 9 ∷ 3 ∷ []

-- messageDigest (RFC 2985, 5.3.2)
abbrev pub message_digest_arcs : List ℕ
message_digest_arcs = 1 ∷ 2 ∷ 840 ∷ 113549 ∷ 1 ∷ 9 ∷ 4 ∷ []

-- signingTime (RFC 2985, 5.3.3)
abbrev pub signing_time_arcs : List ℕ
signing_time_arcs = 1 ∷ 2 ∷ 840 ∷ 113549 ∷ 1 ∷ 9 ∷ 5 ∷ []

-- SpcStatementType of Authenticode
abbrev pub statement_type_arcs : List ℕ
statement_type_arcs = 1 ∷ 3 ∷ 6 ∷ 1 ∷ 4 ∷ 1 ∷ 311 ∷ 2 ∷ 1 ∷ 11 ∷ []

-- the content type data (RFC 2315, 8 and 14)
abbrev pub data_arcs : List ℕ
data_arcs = 1 ∷ 2 ∷ 840 ∷ 113549 ∷ 1 ∷ 7 ∷ 1 ∷ []

-- the kind that arcs say
abbrev pub kind_of : List ℕ → AttributeKind
kind_of arcs =
    if is_arcs arcs extension_request_arcs then kinds.Extensions
    else if is_arcs arcs content_type_arcs then kinds.ContentType
    else if is_arcs arcs statement_type_arcs then kinds.SpcStatementType
    else if is_arcs arcs message_digest_arcs then kinds.MessageDigest
    else if is_arcs arcs signing_time_arcs then kinds.SigningTime
    else kinds.Custom

-- the values of each kind
-- SET OF Extensions
abbrev pub requests : {A : Type 0} → Shape (List (List (ExtensionFields A)))
requests = tagged 49 (items extensions)

-- SET OF OBJECT IDENTIFIER
abbrev pub content_types : Shape (List (List ℕ))
content_types = tagged 49 (items (tagged 6 oids))

-- SET OF SEQUENCE OF OBJECT IDENTIFIER
abbrev pub statements : Shape (List (List (List ℕ)))
statements = tagged 49 (items (tagged 48 (items (tagged 6 oids))))

-- SET OF OCTET STRING
abbrev pub digests : Shape (List (List ℕ))
digests = tagged 49 (items (tagged 4 octets))

-- SET OF UTCTime
abbrev pub times : Shape (List Moment)
times = tagged 49 (items (tagged 23 utc_times))

-- what is written of values
abbrev pub value_bytes : {A : Type 0} → AttributeValues A → List ℕ
value_bytes (value.Extensions es) = element 49 (flat_map extensions_bytes es)
value_bytes (value.ContentType os) = content_types.strict os
value_bytes (value.SpcStatementType ls) = statements.strict ls
value_bytes (value.MessageDigest ds) = digests.strict ds
value_bytes (value.SigningTime ts) = times.strict ts
value_bytes (value.Custom r) = r

-- the values: what they hold is a value of its type
abbrev pub IsValue : {A : Type 0} → AttributeValues A → Type 0
IsValue (value.Extensions es) = requests.valid es
IsValue (value.ContentType os) = content_types.valid os
IsValue (value.SpcStatementType ls) = statements.valid ls
IsValue (value.MessageDigest ds) = digests.valid ds
IsValue (value.SigningTime ts) = times.valid ts
IsValue (value.Custom r) = raws.valid r

-- what values hold is read back as itself
abbrev pub AreReadable : {A : Type 0} → AttributeValues A → Type 0
AreReadable (value.Extensions x) = requests.readable x
AreReadable (value.ContentType x) = content_types.readable x
AreReadable (value.SpcStatementType x) = statements.readable x
AreReadable (value.MessageDigest x) = digests.readable x
AreReadable (value.SigningTime x) = times.readable x
AreReadable (value.Custom x) = raws.readable x

-- the kind of values
abbrev pub kind_in : {A : Type 0} → AttributeValues A → AttributeKind
kind_in (value.Extensions x) = kinds.Extensions
kind_in (value.ContentType x) = kinds.ContentType
kind_in (value.SpcStatementType x) = kinds.SpcStatementType
kind_in (value.MessageDigest x) = kinds.MessageDigest
kind_in (value.SigningTime x) = kinds.SigningTime
kind_in (value.Custom x) = kinds.Custom

-- how the values of a kind are spelled; those that aren't known are any one element
abbrev pub by_kind : {A : Type 0} → AttributeKind → Shape (AttributeValues A)
by_kind kinds.Extensions = variant value.Extensions value_bytes IsValue requests
by_kind kinds.ContentType = variant value.ContentType value_bytes IsValue content_types
by_kind kinds.SpcStatementType = variant value.SpcStatementType value_bytes IsValue statements
by_kind kinds.MessageDigest = variant value.MessageDigest value_bytes IsValue digests
by_kind kinds.SigningTime = variant value.SigningTime value_bytes IsValue times
by_kind kinds.Custom = variant value.Custom value_bytes IsValue raws

abbrev pub Fields : Type 0 → Type 0
Fields A = List ℕ × AttributeValues A

abbrev pub attribute_parts : {A : Type 0} → Attribute A → Fields A
attribute_parts v = (v.ty, v.value)

-- type OBJECT IDENTIFIER, values ANY DEFINED BY type
abbrev pub attribute_inner : {A : Type 0} → Shape (Fields A)
attribute_inner = defined_by (λ c. c.0) (λ c. c.1) (tagged 6 oids) (λ arcs. by_kind (kind_of arcs)) (λ b. true) (λ b. false)

-- Attribute ::= SEQUENCE { type, values SET SIZE (1..MAX) OF } (RFC 2986, 4.1); an empty set is read too
abbrev pub attribute_base : {A : Type 0} → Shape (Fields A)
attribute_base = tagged 48 attribute_inner

abbrev pub attribute : {A : Type 0} → Shape (Attribute A)
attribute = structure attribute_parts attribute_base

-- what is written: the type and the values, also where they don't fit
abbrev pub attribute_bytes : {A : Type 0} → Attribute A → List ℕ
attribute_bytes v = element 48 (element 6 (oid_content v.ty) ++ value_bytes v.value)

-- the fields one behind the other in the SEQUENCE, each at its own place
pub record AttributeAt {A : Type 0} (v : Attribute A) (string : List ℕ) (y : Tally) : Type 0 where
  pub content : List ℕ
  pub bytes : string ≡ element 48 content
  pub types : List ℕ
  pub values : List ℕ
  pub fields : content ≡ types ++ values
  pub type_at : FieldAt (tagged 6 oids) v.ty (header content) types string y
  pub values_at : Stands (by_kind (kind_of v.ty)) v.value (header content + length types) values string y

-- Names: sequences of sets of attributes (RFC 5280, 4.1.2.4).
use Rattle.std.specs.Prelude.{ℕ, List}
use Rattle.std.specs.List.{flat_map}
use Rattle.x509_der.specs.Element.{element}
use Rattle.x509_der.specs.Shape.{Shape}
use Rattle.x509_der.specs.Tagged.{tagged}
use Rattle.x509_der.specs.Items.{items}
use Rattle.x509_names.specs.declared.attribute_type_and_value.AttributeTypeAndValue.{AttributeTypeAndValue}
use Rattle.x509_names.specs.Attributes.{attribute, attribute_bytes}

-- attributes, in order
abbrev pub Set : Type 0 → Type 0
Set A = List (AttributeTypeAndValue A)

-- sets of attributes, in order
abbrev pub Sets : Type 0 → Type 0
Sets A = List (Set A)

-- RelativeDistinguishedName ::= SET SIZE (1..MAX) OF AttributeTypeAndValue; an empty set is read too
abbrev pub relative_name : {A : Type 0} → Shape (Set A)
relative_name = tagged 49 (items attribute)

-- RDNSequence ::= SEQUENCE OF RelativeDistinguishedName, without its header
abbrev pub name_content : {A : Type 0} → Shape (Sets A)
name_content = items relative_name

-- Name ::= CHOICE { rdnSequence RDNSequence }
abbrev pub name : {A : Type 0} → Shape (Sets A)
name = tagged 48 name_content

-- what is written of a set, and in the SEQUENCE
abbrev pub set_bytes : {A : Type 0} → Set A → List ℕ
set_bytes set = element 49 (flat_map (λ a. element 48 (attribute_bytes a)) set)

abbrev pub name_bytes : {A : Type 0} → Sets A → List ℕ
name_bytes sets = flat_map set_bytes sets

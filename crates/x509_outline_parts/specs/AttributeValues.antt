-- Attributes of requests and private keys, with any elements as values (RFC 2986, 4.1; RFC 5958, 2).
use Rattle.std.proofs.Common.{◌≡◌, ℕ, ◌+◌, List, ◌++◌, length}
use Rattle.x509_der.specs.Element.{element, header}
use Rattle.x509_der.specs.Fields.{Stands}
use Rattle.x509_der.specs.Items.{items}
use Rattle.x509_der.specs.Join.{join}
use Rattle.x509_der.specs.ObjectIdentifier.{oids}
use Rattle.x509_der.specs.RawElement.{raws}
use Rattle.x509_der.specs.Shape.{Shape}
use Rattle.x509_der.specs.Structure.{structure}
use Rattle.x509_der.specs.Tagged.{tagged}
use Rattle.x509_der.specs.Tally.{Tally}
use Rattle.x509_outline_parts.specs.declared.attribute_values_outline.AttributeValuesOutline.{AttributeValuesOutline}

-- the arcs of the type, and the elements that the values are
abbrev pub Fields : Type 0
Fields = List ℕ × List (List ℕ)

abbrev pub values_parts : {A : Type 0} → AttributeValuesOutline A → Fields
values_parts v = (v.attribute_type, v.values)

-- values SET OF ANY; an empty set is read too, and the order is kept
abbrev pub value_set : Shape (List (List ℕ))
value_set = tagged 49 (items raws)

-- Attribute ::= SEQUENCE { type OBJECT IDENTIFIER, values SET SIZE (1..MAX) OF ANY DEFINED BY type } (RFC 2986, 4.1)
abbrev pub values_base : Shape Fields
values_base = tagged 48 (join (λ j. j.0) (λ j. j.1) (tagged 6 oids) value_set)

abbrev pub attribute_values : {A : Type 0} → Shape (AttributeValuesOutline A)
attribute_values = structure values_parts values_base

-- Attributes ::= SET OF Attribute, under the tag [0] IMPLICIT (RFC 2986, 4.1; RFC 5958, 2)
abbrev pub attributes_field : {A : Type 0} → Shape (List (AttributeValuesOutline A))
attributes_field = tagged 160 (items attribute_values)

-- the type right behind the header, and behind it the values
pub record AttributeValuesAt {A : Type 0} (v : AttributeValuesOutline A) (string : List ℕ) (y : Tally) : Type 0 where
  pub content : List ℕ
  pub bytes : string ≡ element 48 content
  pub types : List ℕ
  pub values : List ℕ
  pub fields : content ≡ types ++ values
  pub type_at : Stands (tagged 6 oids) v.attribute_type (header content) types string y
  pub values_at : Stands value_set v.values (header content + length types) values string y

-- The attributes of a name, with any element as value (RFC 5280, 4.1.2.4).
use Rattle.std.proofs.Common.{◌≡◌, ℕ, ◌+◌, List, ◌++◌, length}
use Rattle.x509_der.specs.Element.{element, header}
use Rattle.x509_der.specs.Fields.{Stands}
use Rattle.x509_der.specs.Join.{join}
use Rattle.x509_der.specs.ObjectIdentifier.{oids}
use Rattle.x509_der.specs.RawElement.{raws}
use Rattle.x509_der.specs.Shape.{Shape}
use Rattle.x509_der.specs.Structure.{structure}
use Rattle.x509_der.specs.Tagged.{tagged}
use Rattle.x509_der.specs.Tally.{Tally}
use Rattle.x509_outline_parts.specs.declared.attribute_outline.AttributeOutline.{AttributeOutline}

-- the arcs of the type, and the element that the value is
abbrev pub Fields : Type 0
Fields = List ℕ × List ℕ

abbrev pub attribute_parts : {A : Type 0} → AttributeOutline A → Fields
attribute_parts v = (v.attribute_type, v.value)

-- type AttributeType, value AttributeValue
abbrev pub attribute_inner : Shape Fields
attribute_inner = join (λ j. j.0) (λ j. j.1) (tagged 6 oids) raws

-- AttributeTypeAndValue ::= SEQUENCE { type AttributeType, value AttributeValue }, AttributeType ::= OBJECT IDENTIFIER,
-- AttributeValue ::= ANY DEFINED BY AttributeType (RFC 5280, 4.1.2.4)
abbrev pub attribute_base : Shape Fields
attribute_base = tagged 48 attribute_inner

abbrev pub attribute : {A : Type 0} → Shape (AttributeOutline A)
attribute = structure attribute_parts attribute_base

-- the type right behind the header, and behind it the value
pub record AttributeAt {A : Type 0} (v : AttributeOutline A) (string : List ℕ) (y : Tally) : Type 0 where
  pub content : List ℕ
  pub bytes : string ≡ element 48 content
  pub types : List ℕ
  pub values : List ℕ
  pub fields : content ≡ types ++ values
  pub type_at : Stands (tagged 6 oids) v.attribute_type (header content) types string y
  pub value_at : Stands raws v.value (header content + length types) values string y

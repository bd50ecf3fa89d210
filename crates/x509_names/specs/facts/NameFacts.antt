-- What is written of a name is its strict spelling.
use Rattle.std.proofs.Common.{◌≡◌, List, ap}
use Rattle.x509_der.specs.Element.{element}
use Rattle.x509_der.specs.laws.StrictSpelling.{agree_items}
use Rattle.x509_names.specs.declared.attribute_type_and_value.AttributeTypeAndValue.{AttributeTypeAndValue}
use Rattle.x509_names.specs.Attributes.{attribute, attribute_bytes}
use Rattle.x509_names.specs.facts.AttributeFacts.{attribute_agrees}
use Rattle.x509_names.specs.Names.{Sets, relative_name, name_content, name, set_bytes, name_bytes}

set_agrees : {A : Type 0} (set : List (AttributeTypeAndValue A)) → relative_name.strict set ≡ set_bytes set
set_agrees set = ap (element 49) (agree_items attribute (λ a. element 48 (attribute_bytes a)) attribute_agrees set)

pub content_agrees : {A : Type 0} (sets : Sets A) → name_content.strict sets ≡ name_bytes sets
content_agrees sets = agree_items relative_name set_bytes set_agrees sets

pub name_agrees : {A : Type 0} (sets : Sets A) → name.strict sets ≡ element 48 (name_bytes sets)
name_agrees sets = ap (element 48) (content_agrees sets)

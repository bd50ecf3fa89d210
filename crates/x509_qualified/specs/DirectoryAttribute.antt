-- Attributes of a subject beside its name (RFC 5280, 4.2.1.8).
use Rattle.std.specs.Prelude.{ℕ, List}
use Rattle.x509_der.specs.Shape.{Shape}
use Rattle.x509_der.specs.Tagged.{tagged}
use Rattle.x509_der.specs.Join.{join}
use Rattle.x509_der.specs.Items.{items}
use Rattle.x509_der.specs.RawElement.{raws}
use Rattle.x509_der.specs.Structure.{structure}
use Rattle.x509_der.specs.ObjectIdentifier.{oids}
use Rattle.x509_qualified.specs.declared.structures.directory_attribute.DirectoryAttribute.{DirectoryAttribute}

-- the arcs of the type, and the elements that are the values
abbrev pub Fields : Type 0 → Type 0
Fields A = List ℕ × List (List ℕ)

abbrev pub directory_attribute_parts : {A : Type 0} → DirectoryAttribute A → Fields A
directory_attribute_parts v = (v.attribute_type, v.values)

-- type AttributeType, which is an OBJECT IDENTIFIER, values SET OF AttributeValue, which is any one element
abbrev pub directory_attribute_inner : Shape (List ℕ × List (List ℕ))
directory_attribute_inner = join (λ j. j.0) (λ j. j.1) (tagged 6 oids) (tagged 49 (items raws))

abbrev pub directory_attribute_content : {A : Type 0} → Shape (DirectoryAttribute A)
directory_attribute_content = structure directory_attribute_parts directory_attribute_inner

-- Attribute ::= SEQUENCE { type, values }
abbrev pub directory_attribute : {A : Type 0} → Shape (DirectoryAttribute A)
directory_attribute = tagged 48 directory_attribute_content

-- SubjectDirectoryAttributes ::= SEQUENCE SIZE (1..MAX) OF Attribute; an empty list is one too
abbrev pub subject_directory_attributes : {A : Type 0} → Shape (List (DirectoryAttribute A))
subject_directory_attributes = tagged 48 (items directory_attribute)

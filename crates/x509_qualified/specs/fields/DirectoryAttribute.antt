-- Where the fields of DirectoryAttribute stand in an encoding, written by tools/structures.py from declarations.asn1.
use Rattle.std.proofs.Common.{◌≡◌, ℕ, ◌+◌, List, ◌++◌, length}
use Rattle.x509_der.specs.Element.{element, header}
use Rattle.x509_der.specs.Tally.{Tally}
use Rattle.x509_der.specs.Fields.{Stands}
use Rattle.x509_der.specs.Items.{items}
use Rattle.x509_der.specs.ObjectIdentifier.{oids}
use Rattle.x509_der.specs.RawElement.{raws}
use Rattle.x509_der.specs.Tagged.{tagged}
use Rattle.x509_qualified.specs.declared.structures.directory_attribute.DirectoryAttribute.{DirectoryAttribute}

pub record DirectoryAttributeAt {A : Type 0} (v : DirectoryAttribute A) (string : List ℕ) (y : Tally) : Type 0 where
  pub content : List ℕ
  pub bytes : string ≡ element 48 content
  pub attribute_type_bytes : List ℕ
  pub values_bytes : List ℕ
  pub attribute_type_first : content ≡ attribute_type_bytes ++ values_bytes
  pub attribute_type_at : Stands (tagged 6 oids) v.attribute_type (header content) attribute_type_bytes string y
  pub values_at : Stands (tagged 49 (items raws)) v.values (header content + length attribute_type_bytes) values_bytes string y

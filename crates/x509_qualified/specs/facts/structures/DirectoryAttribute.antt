-- Facts about DirectoryAttribute, written by tools/structures.py from declarations.asn1.
use Rattle.std.proofs.Common.{◌≡◌, ap}
use Rattle.x509_qualified.specs.declared.structures.directory_attribute.DirectoryAttribute.{DirectoryAttribute}
use Rattle.x509_qualified.specs.DirectoryAttribute.{Fields, directory_attribute_parts}

abbrev pub directory_attribute_of : {A : Type 0} → Fields A → DirectoryAttribute A
directory_attribute_of f = record { attribute_type = f.0; values = f.1 }

pub directory_attribute_same : {A : Type 0} (v w : DirectoryAttribute A) → directory_attribute_parts v ≡ directory_attribute_parts w → v ≡ w
directory_attribute_same v w e = ap directory_attribute_of e

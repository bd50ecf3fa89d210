-- That == of DirectoryAttribute tells the same, written by tools/structures.py from declarations.asn1.
use Rattle.x509_qualified.specs.DirectoryAttribute.{directory_attribute_parts}
use Rattle.x509_qualified.specs.facts.structures.DirectoryAttribute.{directory_attribute_same}
use Rattle.x509_der.specs.facts.SameEq.{both_decide, told_decide}
use Rattle.x509_qualified.proofs.structures.directory_attribute.DirectoryAttributeSameEq.decides.Goals as goal

pub returns : goal.returns
returns g c = told_decide directory_attribute_parts directory_attribute_same (both_decide c.decides.ensures c.decides-2.ensures)

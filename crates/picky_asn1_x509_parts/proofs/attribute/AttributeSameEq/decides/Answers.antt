use Rattle.picky_asn1_x509_parts.specs.Attribute.{attribute_parts}
use Rattle.picky_asn1_x509_parts.specs.facts.AttributeSame.{attribute_same}
use Rattle.x509_der.specs.facts.SameEq.{both_decide, told_decide}
use Rattle.picky_asn1_x509_parts.proofs.attribute.AttributeSameEq.decides.Goals as goal

pub returns : goal.returns
returns g c = told_decide attribute_parts attribute_same (both_decide c.decides.ensures c.decides-2.ensures)

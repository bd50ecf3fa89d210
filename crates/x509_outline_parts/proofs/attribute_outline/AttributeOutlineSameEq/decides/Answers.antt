use Rattle.x509_der.specs.facts.SameEq.{both_decide, told_decide}
use Rattle.x509_outline_parts.specs.Attributes.{attribute_parts}
use Rattle.x509_outline_parts.specs.facts.Attributes.{attribute_same}
use Rattle.x509_outline_parts.proofs.attribute_outline.AttributeOutlineSameEq.decides.Goals as goal

pub returns : goal.returns
returns g c = told_decide attribute_parts attribute_same (both_decide c.decides.ensures c.decides-2.ensures)

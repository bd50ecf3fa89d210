use Rattle.x509_der.specs.facts.SameEq.{both_decide, told_decide}
use Rattle.x509_outline_parts.specs.AttributeValues.{values_parts}
use Rattle.x509_outline_parts.specs.facts.AttributeValues.{values_same}
use Rattle.x509_outline_parts.proofs.attribute_values_outline.AttributeValuesOutlineSameEq.decides.Goals as goal

pub returns : goal.returns
returns g c = told_decide values_parts values_same (both_decide c.decides.ensures c.decides-2.ensures)

use Rattle.x509_names_parts.specs.Validities.{validity_parts}
use Rattle.x509_der.specs.facts.SameEq.{both_decide, told_decide}
use Rattle.x509_names_parts.specs.facts.Validities.{validity_same}
use Rattle.x509_names_parts.proofs.validity.ValiditySameEq.decides.Goals as goal

pub returns : goal.returns
returns c = told_decide validity_parts validity_same (both_decide c.decides.ensures c.decides.ensures)

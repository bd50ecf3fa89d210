use Rattle.x509_names.specs.OtherNames.{other_parts}
use Rattle.x509_names.specs.facts.OtherNames.{other_same}
use Rattle.x509_der.specs.facts.SameEq.{both_decide, told_decide}
use Rattle.x509_names.proofs.other_name.OtherNameSameEq.decides.Goals as goal

pub returns : goal.returns
returns g c = told_decide other_parts other_same (both_decide c.decides.ensures c.decides-2.ensures)

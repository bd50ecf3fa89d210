use Rattle.x509_der.specs.facts.IntegerUnique.{minimal_once}
use Rattle.x509_der.proofs.laws.number_has_one_content.Goals as goal

pub returns : goal.returns
returns c = minimal_once

use Rattle.x509_der.specs.facts.NaturalNumber.{natural_bytes, natural_minimal, natural_value, natural_once}
use Rattle.x509_der.proofs.laws.natural_contents.Goals as goal

pub returns-clause-bytes : goal.returns-clause-bytes
returns-clause-bytes c = natural_bytes

pub returns-clause-minimal : goal.returns-clause-minimal
returns-clause-minimal c = natural_minimal

pub returns-clause-number : goal.returns-clause-number
returns-clause-number c = natural_value

pub returns-clause-once : goal.returns-clause-once
returns-clause-once c = natural_once

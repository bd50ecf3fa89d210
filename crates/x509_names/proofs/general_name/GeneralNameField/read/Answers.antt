use Rattle.std.proofs.Common.{rules}
use Rattle.x509_der.specs.facts.Alternatives.{byte_apart, either_apart}
use Rattle.x509_names.proofs.general_name.GeneralNameField.read.Goals as goal

pub read_of_four-requires-clause-fits : goal.read_of_four-requires-clause-fits
read_of_four-requires-clause-fits g c = search (rules, byte_apart, either_apart)

-- these are found without an answer too; with one, a wrong nest is refused sooner
pub read_of_four-requires-clause-base : goal.read_of_four-requires-clause-base
read_of_four-requires-clause-base g c = λ b p y x. x

pub returns : goal.returns
returns g c = c.read_of_four.ensures

use Rattle.std.proofs.Common.{rules}
use Rattle.x509_der.specs.facts.Alternatives.{byte_apart, either_apart}
use Rattle.x509_names.proofs.general_name.GeneralNameField.pass.Goals as goal

pub pass_of_four-requires-clause-fits : goal.pass_of_four-requires-clause-fits
pass_of_four-requires-clause-fits g c = search (rules, byte_apart, either_apart)

pub pass_of_four-requires-clause-base : goal.pass_of_four-requires-clause-base
pass_of_four-requires-clause-base g c = λ b p y x. x

pub returns : goal.returns
returns g c = c.pass_of_four.ensures

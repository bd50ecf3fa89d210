use Rattle.x509_values.specs.facts.Elements.{finds_it, finds_none}
use Rattle.x509_values.proofs.elements.Elements.take.Goals as goal

pub returns : goal.returns
returns c = finds_it c.args.self.now _ _ c.in-Some.ensures.takes

pub returns-in_default : goal.returns-in_default
returns-in_default c = finds_none c.args.self.now _ _ c.in_default.ensures.takes.0

use Rattle.x509_fields.specs.facts.Steps.{one_gone, all_gone}
use Rattle.x509_fields.proofs.walk.Walk.count.Goals as goal

pub elements-preserved : goal.elements-preserved
elements-preserved c = one_gone c.args.self.now c.elements.walk c.step.new.self c.in-Some._span c.elements.count c.elements.invariant c.in-Some.ensures.0 c.in-Some.ensures.1

pub returns : goal.returns
returns c = all_gone c.args.self.now c.elements.walk c.elements.count c.elements.invariant c.in_default.ensures.1

use Rattle.std.proofs.Common.{sym, ◌∙◌}
use Rattle.x509_der.specs.facts.OidContent.{not_ahead}
use Rattle.x509_der.proofs.oid.OidRef.arcs_behind.Goals as goal

pub returns-then-ne : goal.returns-then-ne
returns-then-ne c = λ more m. not_ahead c.args.front.now c.loop-arc.own c.args.self.now c.next.new.self more c.loop-arc.arc-index c.next.result c.loop-arc.invariant c.loop-arc-test.true c.next.ensures.steps (sym c.ne.ensures ∙ c.if-ne.true) m

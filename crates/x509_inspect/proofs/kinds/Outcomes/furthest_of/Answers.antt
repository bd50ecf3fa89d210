use Rattle.x509_inspect.proofs.Furthest.{furthest_take}
use Rattle.x509_inspect.proofs.kinds.Outcomes.furthest_of.Goals as goal

pub loop-kind-preserved : goal.loop-kind-preserved
loop-kind-preserved c = furthest_take c.args.self.now c.args.kinds.now c.further-best.result c.loop-kind.kind-index _ c.loop-kind-test.true (c.further-best.ensures _ c.loop-kind.invariant)

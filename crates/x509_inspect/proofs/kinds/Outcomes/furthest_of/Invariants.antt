use Rattle.std.proofs.Common.{take}
use Rattle.x509_inspect.specs.Determined.{FurthestOf}
use Rattle.x509_inspect.proofs.kinds.Outcomes.furthest_of.Given as goal

abbrev pub invariant-loop-kind : goal.invariant-loop-kind
invariant-loop-kind l = FurthestOf l.self (take l.kind-index l.kinds) l.best

use Rattle.std.proofs.Common.{None, take}
use Rattle.x509_inspect.specs.Determined.{AcceptedAs}
use Rattle.x509_inspect.proofs.kinds.Outcomes.accepting.Given as goal

abbrev pub invariant-loop-kind : goal.invariant-loop-kind
invariant-loop-kind l = AcceptedAs l.self (take l.kind-index l.kinds) None

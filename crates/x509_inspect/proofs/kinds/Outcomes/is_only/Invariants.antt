use Rattle.std.proofs.Common.{take}
use Rattle.x509_inspect.specs.Determined.{OnlyOne}
use Rattle.x509_inspect.proofs.kinds.Outcomes.is_only.Given as goal

abbrev pub invariant-loop-other : goal.invariant-loop-other
invariant-loop-other l = OnlyOne l.self (take l.other-index l.kinds) l.kind

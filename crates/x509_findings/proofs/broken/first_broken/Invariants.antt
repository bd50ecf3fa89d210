use Rattle.std.proofs.Common.{take}
use Rattle.x509_findings.specs.Broken.{NoneBroken}
use Rattle.x509_findings.proofs.broken.first_broken.Given as goal

-- the certificate keeps the rules that were asked
abbrev pub invariant-loop-index : goal.invariant-loop-index
invariant-loop-index g l = NoneBroken l.certificate (take l.index l.rules)

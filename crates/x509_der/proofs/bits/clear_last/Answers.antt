use Rattle.std.proofs.Common.{arith}
use Rattle.x509_der.specs.facts.BitEdits.{last_cleared, none_cleared}
use Rattle.x509_der.proofs.bits.clear_last.Goals as goal

pub returns-then-len-gt0-clause-bits : goal.returns-then-len-gt0-clause-bits
returns-then-len-gt0-clause-bits c = last_cleared c.args.bytes.now _ c.args.count c.cleared.result (omega (arith, c.if-len-gt0.true)) c.requires.few c.cleared.ensures

pub returns-else-len-gt0-clause-bits : goal.returns-else-len-gt0-clause-bits
returns-else-len-gt0-clause-bits c = none_cleared c.args.bytes.now c.args.count (omega (arith, c.if-len-gt0.false)) c.requires.within

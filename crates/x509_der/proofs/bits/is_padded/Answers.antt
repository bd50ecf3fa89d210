use Rattle.std.proofs.Common.{arith}
use Rattle.x509_der.specs.facts.BitEdits.{none_padded, last_tested}
use Rattle.x509_der.proofs.bits.is_padded.Goals as goal

pub returns-then-len-eq0 : goal.returns-then-len-eq0
returns-then-len-eq0 c = none_padded c.args.bytes.now c.args.unused c.if-len-eq0.true

pub returns-then-unused-lt8 : goal.returns-then-unused-lt8
returns-then-unused-lt8 c = last_tested c.args.bytes.now _ c.args.unused (omega (arith, c.if-len-eq0.false)) c.if-unused-lt8.true

use Rattle.std.proofs.Common.{arith}
use Rattle.x509_der.specs.facts.BitEdits.{bit_put}
use Rattle.x509_der.proofs.bits.put_bit.Goals as goal

pub returns-clause-bits : goal.returns-clause-bits
returns-clause-bits c = bit_put c.args.bytes.now c.args.index c.with_bit.result c.args.value (omega (arith, c.requires)) c.with_bit.ensures

use Rattle.std.proofs.Common.{sym, arith}
use Rattle.x509_der.specs.facts.BitString.{payload-used}
use Rattle.x509_der.proofs.bits.payload_of.Goals as goal

pub returns : goal.returns
returns c = sym (payload-used c.args.bytes.now c.args.unused c.requires (λ k. omega (arith, c.type_inv.bytes k)))

use Rattle.std.proofs.Common.{arith}
use Rattle.x509_der.specs.facts.Integer.{signed_value-positive}
use Rattle.x509_der.proofs.integer.unpadded.Goals as goal

pub returns-in_default-2-clause-number : goal.returns-in_default-2-clause-number
returns-in_default-2-clause-number c = signed_value-positive c.args.bytes.now (λ k. omega (arith, c.type_inv.bytes k))

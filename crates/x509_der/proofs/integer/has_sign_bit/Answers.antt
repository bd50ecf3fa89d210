use Rattle.std.proofs.Common.{arith}
use Rattle.x509_der.specs.facts.IntegerUnique.{first_below}
use Rattle.x509_der.proofs.integer.has_sign_bit.Goals as goal

pub returns-in-len1-up-clause-number : goal.returns-in-len1-up-clause-number
returns-in-len1-up-clause-number c = first_below c.args.bytes.now c.in-len1-up.len_at_least (λ k. omega (arith, c.type_inv.bytes k))

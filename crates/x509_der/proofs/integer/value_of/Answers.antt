use Rattle.std.proofs.Common.{arith}
use Rattle.x509_der.specs.facts.NaturalNumber.{value_passes, value_ends}
use Rattle.x509_der.proofs.integer.value_of.Goals as goal

pub returns-then-number-ge-FULL-clause-none : goal.returns-then-number-ge-FULL-clause-none
returns-then-number-ge-FULL-clause-none c = value_passes c.args.digits.now c.loop-digit.digit-index c.loop-digit.number c.loop-digit-test.true c.loop-digit.invariant (omega (arith, c.if-number-ge-FULL.true))

pub returns-clause-some : goal.returns-clause-some
returns-clause-some c = value_ends c.args.digits.now c.loop-digit.digit-index c.loop-digit.number (omega (arith, c.loop-digit-test.false)) c.loop-digit.invariant

pub returns-then-number-ge-FULL-clause-bytes : goal.returns-then-number-ge-FULL-clause-bytes
returns-then-number-ge-FULL-clause-bytes c = λ k. omega (arith, c.type_inv.digits k)

pub returns-clause-bytes : goal.returns-clause-bytes
returns-clause-bytes c = λ k. omega (arith, c.type_inv.digits k)

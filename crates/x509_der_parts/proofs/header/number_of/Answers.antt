use Rattle.std.proofs.Common.{arith}
use Rattle.x509_der_parts.specs.facts.LengthDigits.{step_fits}
use Rattle.x509_der_parts.proofs.header.number_of.Goals as goal

pub overflow_mul-number : goal.overflow_mul-number
overflow_mul-number c = omega (arith, step_fits c.loop-digit.number c.loop-digit.digit-index c.loop-digit.invariant.1 (omega arith))

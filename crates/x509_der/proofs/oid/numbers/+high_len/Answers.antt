use Rattle.std.proofs.Common.{length, arith, sym, ap, ◌∙◌}
use Rattle.x509_der.specs.ObjectIdentifier.{high_digits}
use Rattle.x509_der.specs.facts.ObjectIdentifier.{highs_zero, highs_longer}
use Rattle.x509_der.proofs.oid.numbers.+high_len.Goals as goal

pub returns-then-number-eq0-clause-len : goal.returns-then-number-eq0-clause-len
returns-then-number-eq0-clause-len t c = let e = c.if-number-eq0.true in sym highs_zero ∙ ap (λ n. length (high_digits n)) (sym e)

pub returns-clause-len : goal.returns-clause-len
returns-clause-len t c = omega (arith, highs_longer c.args.number (omega (arith, c.if-number-eq0.false)), c.high_len.ensures.len)

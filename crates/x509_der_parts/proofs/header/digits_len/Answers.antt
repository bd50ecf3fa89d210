use Rattle.std.proofs.Common.{◌≡◌, length, arith, sym, ap}
use Rattle.x509_der_parts.specs.Element.{base}
use Rattle.x509_der_parts.specs.facts.LengthDigits.{base_zero, base_length, base_eight}
use Rattle.x509_der_parts.specs.facts.Writing.{low_size, high_size}
use Rattle.x509_der_parts.proofs.header.digits_len.Goals as goal

pub returns-then-len-lt128-clause-value : goal.returns-then-len-lt128-clause-value
returns-then-len-lt128-clause-value c = sym (low_size c.args.len c.if-len-lt128.true)

pub loop-rest-preserved : goal.loop-rest-preserved
loop-rest-preserved c = record {
  same = omega (arith, c.loop-rest.invariant.same, base_length c.loop-rest.rest c.loop-rest-test.true);
  few = omega (arith, c.loop-rest.invariant.same, base_length c.loop-rest.rest c.loop-rest-test.true, base_eight c.args.len (omega arith));
}

pub returns-clause-value : goal.returns-clause-value
returns-clause-value c = omega (arith, c.loop-rest.invariant.same, high_size c.args.len c.if-len-lt128.false, ap (λ x. length (base x)) (let q : c.loop-rest.rest ≡ 0 = omega arith in q), ap length base_zero)

use Rattle.std.proofs.Common.{◌++◌, ◌-◌, ◌/◌, ◌%◌, ◌+◌, ◌<◌, length, take, set, arith, sym, ap, ◌∙◌, length-set}
use Rattle.std.proofs.lemmas.List.{length-take-le, take_all, append-nil}
use Rattle.x509_der_parts.specs.facts.Writing.{before_last, last_before}
use Rattle.x509_der.specs.ObjectIdentifier.{high_digits}
use Rattle.x509_der.specs.facts.ObjectIdentifier.{highs_longer, highs_more, high-zero}
use Rattle.x509_der.proofs.oid.numbers.+write_high.Goals as goal

pub returns-then-number-eq0-clause-start : goal.returns-then-number-eq0-clause-start
returns-then-number-eq0-clause-start t c = omega (arith, ap (λ n. length (high_digits n)) c.if-number-eq0.true, ap length high-zero)

pub returns-then-number-eq0-clause-bytes : goal.returns-then-number-eq0-clause-bytes
returns-then-number-eq0-clause-bytes t c = sym (ap (λ n. take (length c.args.out.now) c.args.out.now ++ high_digits n) c.if-number-eq0.true ∙ ap (λ x. take (length c.args.out.now) c.args.out.now ++ x) high-zero ∙ append-nil (take (length c.args.out.now) c.args.out.now) ∙ take_all (length c.args.out.now) c.args.out.now (omega arith))

pub overflow_sub-last : goal.overflow_sub-last
overflow_sub-last t c = omega (arith, highs_longer c.args.number (omega (arith, c.if-number-eq0.false)), c.requires)

pub bounds-out-last : goal.bounds-out-last
bounds-out-last t c = omega (arith, highs_longer c.args.number (omega (arith, c.if-number-eq0.false)), c.requires)

pub write_high-requires : goal.write_high-requires
write_high-requires t c =
    let n = c.args.number in
    let p : 0 < n = omega (arith, c.if-number-eq0.false) in
    (omega (arith, c.decreases), before_last c.args.out.now (length (high_digits (n / 128))) (length c.args.out.now - 1) (128 + n % 128) (omega (arith, highs_longer n p, c.requires)) (omega arith))

pub returns-clause-start : goal.returns-clause-start
returns-clause-start t c = omega (arith, highs_longer c.args.number (omega (arith, c.if-number-eq0.false)), c.requires, c.write_high.ensures.start, c.write_high.auto.out, length-take-le (length c.args.out.now - 1) (set c.args.out.now (length c.args.out.now - 1) (128 + c.args.number % 128)) (omega (arith, length-set c.args.out.now (length c.args.out.now - 1) (128 + c.args.number % 128))))

pub returns-clause-bytes : goal.returns-clause-bytes
returns-clause-bytes t c =
    let n = c.args.number in
    let p : 0 < n = omega (arith, c.if-number-eq0.false) in
    last_before (high_digits (n / 128)) c.args.out.now c.write_high.new.out c.write_high.result (length c.args.out.now - 1) (128 + n % 128) (omega (arith, length-set c.args.out.now (length c.args.out.now - 1) (128 + n % 128), c.write_high.ensures.start, length-take-le (length c.args.out.now - 1) (set c.args.out.now (length c.args.out.now - 1) (128 + n % 128)) (omega (arith, length-set c.args.out.now (length c.args.out.now - 1) (128 + n % 128))))) (omega (arith, highs_longer n p, c.requires)) c.write_high.ensures.bytes
    ∙ ap (λ x. take c.write_high.result c.args.out.now ++ x) (sym (highs_more n p))

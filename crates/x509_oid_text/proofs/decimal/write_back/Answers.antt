use Rattle.std.proofs.Common.{◌≡◌, ◌+◌, ◌-◌, ◌/◌, ◌%◌, ◌++◌, ◌≤◌, ◌<◌, ◌^◌, drop, set, arith, ap, ◌∙◌}
use Rattle.std.specs.Fmt.{decimal}
use Rattle.std.proofs.lemmas.List.{length-set}
use Rattle.x509_oid_text.proofs.Digits.{begun, most, one_more, shorter, some, first, counted}
use Rattle.x509_oid_text.proofs.decimal.write_back.Goals as goal

pub digits-init : goal.digits-init
digits-init c = record {
  size = c.told-room;
  written = begun c.args.number c.args.room.now c.told-room;
  low = most c.args.number (omega (arith, c.ranges.number.fits));
  high = omega arith;
}

pub overflow_sub-at-in-digits : goal.overflow_sub-at-in-digits
overflow_sub-at-in-digits c = some c.digits.rest c.digits.at (omega (arith, c.digits-test.true)) (omega (arith, c.digits.auto.rest-fits)) c.digits.invariant.low

pub digits-preserved : goal.digits-preserved
digits-preserved c =
    let i = c.digits.invariant in
    let many : 10 ≤ c.digits.rest = omega (arith, c.digits-test.true) in
    let small : c.digits.rest < 2 ^ 64 = omega (arith, c.digits.auto.rest-fits) in
    let room = set c.digits.room c.digits.at (48 + c.digits.rest % 10) in
    let back : c.digits.at ≡ c.digits.at - 1 + 1 = omega (arith, some c.digits.rest c.digits.at many small i.low) in
    record {
      size = length-set c.digits.room c.digits.at (48 + c.digits.rest % 10) ∙ i.size;
      written = one_more c.args.number c.digits.rest c.digits.at c.digits.room i.size many small i.high i.written ∙ ap (λ n. decimal (c.digits.rest / 10) ++ drop n room) back;
      low = omega (arith, shorter c.digits.rest c.digits.at many small i.low, back);
      high = omega (arith, i.high);
    }

pub returns-clause-digits : goal.returns-clause-digits
returns-clause-digits c =
    let i = c.digits.invariant in
    first c.args.number c.digits.rest c.digits.at c.digits.room i.size (omega (arith, c.digits-test.false)) i.high i.written

pub returns-clause-fits : goal.returns-clause-fits
returns-clause-fits c =
    let i = c.digits.invariant in
    counted c.args.number c.digits.rest c.digits.at c.digits.room i.size (omega (arith, c.digits-test.false)) i.high i.written

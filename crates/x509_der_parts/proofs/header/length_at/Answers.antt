use Rattle.std.proofs.Common.{◌≤◌, ◌-◌, length, take, get_or, arith, ap, ◌∙◌, inl, inr, ⊎_elim, refl}
use Rattle.std.proofs.lemmas.Grind.{common_steps}
use Rattle.x509_der_parts.specs.facts.LengthDigits.{none_empty, none_count, none_short, none_zero, none_low, digit_low_here, high_here}
use Rattle.x509_der_parts.specs.Element.{value_from}
use Rattle.x509_der_parts.proofs.header.length_at.Goals as goal

pub returns-then-is_empty-clause-none : goal.returns-then-is_empty-clause-none
returns-then-is_empty-clause-none c = none_empty c.args.bytes.now (grind (arith, common_steps))

pub returns-then-first-lt128-clause-some : goal.returns-then-first-lt128-clause-some
returns-then-first-lt128-clause-some c =
    let n : 1 ≤ length c.args.bytes.now = grind (arith, common_steps) in
    (digit_low_here c.args.bytes.now n c.if-first-lt128.true, n)

pub returns-then-count-eq0-clause-none : goal.returns-then-count-eq0-clause-none
returns-then-count-eq0-clause-none c = none_count c.args.bytes.now c.if-first-lt128.false (⊎_elim inl (λ x. inr x.1) c.then-count-eq0.either)

pub returns-then-after-count-clause-none : goal.returns-then-after-count-clause-none
returns-then-after-count-clause-none c = none_short c.args.bytes.now c.if-first-lt128.false (rw c.tail-after.ensures at c.if-after-count.true)

pub returns-then-after-eq0-clause-none : goal.returns-then-after-eq0-clause-none
returns-then-after-eq0-clause-none c = none_zero c.args.bytes.now c.if-first-lt128.false (rw c.tail-after.ensures at c.if-after-eq0.true)

pub returns-then-number-lt128-clause-none : goal.returns-then-number-lt128-clause-none
returns-then-number-lt128-clause-none c = none_low c.args.bytes.now c.number_of-number.result c.if-first-lt128.false (c.number_of-number.ensures ∙ ap (value_from 0) (c.split_at.ensures.front ∙ ap (take (get_or c.args.bytes.now 0 0 - 128)) c.tail-after.ensures)) c.if-number-lt128.true

pub returns-clause-some : goal.returns-clause-some
returns-clause-some c = high_here c.args.bytes.now (get_or c.args.bytes.now 0 0 - 128) c.number_of-number.result (grind (arith, common_steps)) c.if-first-lt128.false refl c.if-count-eq0.false (rw c.tail-after.ensures at c.if-after-count.false) (rw c.tail-after.ensures at c.if-after-eq0.false) (λ i. omega (arith, c.type_inv.bytes i)) (c.number_of-number.ensures ∙ ap (value_from 0) (c.split_at.ensures.front ∙ ap (take (get_or c.args.bytes.now 0 0 - 128)) c.tail-after.ensures)) c.if-number-lt128.false

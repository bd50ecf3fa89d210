use Rattle.std.proofs.Common.{refl, arith, ◌∙◌}
use Rattle.x509_flat_values.proofs.BitLengths.{bits_told, bytes_more, length_more, value_more}
use Rattle.x509_flat_values.proofs.numbers.bit_length.Goals as goal

pub zeros-init : goal.zeros-init
zeros-init c = (refl, omega arith, λ k. omega (arith, c.type_inv.digits k))

pub zeros-preserved : goal.zeros-preserved
zeros-preserved c =
    let i = c.zeros.invariant in
    (value_more c.zeros.rest.now _ _ c.in-len1-up.len_at_least refl c.if-first-ne0.false ∙ i.0, omega (arith, length_more c.zeros.rest.now c.in-len1-up.len_at_least, i.1), bytes_more c.zeros.rest.now i.2)

pub returns-then-first-ne0 : goal.returns-then-first-ne0
returns-then-first-ne0 c = λ few.
    let i = c.zeros.invariant in
    bits_told c.args.digits.now c.zeros.rest.now _ c.byte_length.result c.saturating_mul.result c.saturating_add.result _ i.2 i.0 i.1 c.in-len1-up.len_at_least refl c.if-first-ne0.true c.byte_length.ensures.length c.byte_length.ensures.few c.saturating_mul.ensures c.saturating_add.ensures few

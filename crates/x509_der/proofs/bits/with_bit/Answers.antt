use Rattle.std.proofs.Common.{◌==◌, ap, sym, ◌∙◌, w8}
use Rattle.std.proofs.lemmas.Nat.Bits.{bit_at_set_same, bit_at_set_other, bit_at_clear_same, bit_at_clear_other}
use Rattle.x509_der.proofs.bits.with_bit.Goals as goal

pub returns-then-value : goal.returns-then-value
returns-then-value c = record {
  here = ap (λ x. x == 1) (bit_at_set_same w8 c.args.byte c.args.place c.requires) ∙ sym c.if-value.true;
  others = λ i l n. ap (λ x. x == 1) (bit_at_set_other w8 c.args.byte c.args.place c.requires i n);
}

pub returns-else-value : goal.returns-else-value
returns-else-value c = record {
  here = ap (λ x. x == 1) (bit_at_clear_same w8 c.args.byte c.args.place c.requires) ∙ sym c.if-value.false;
  others = λ i l n. ap (λ x. x == 1) (bit_at_clear_other w8 c.args.byte c.args.place c.requires i l n);
}

use Rattle.std.proofs.Common.{sym, ap, ◌∙◌}
use Rattle.std.specs.Prelude.{nat_eq}
use Rattle.std.specs.Cmp.Lexicographic.{pointwise}
use Rattle.x509_der.specs.BitString.{payload}
use Rattle.x509_der.specs.facts.BitString.{same_tested}
use Rattle.x509_der.proofs.bit_string.BitStringPartialEq.eq.Goals as goal

pub returns-then-get_num_unused_bits : goal.returns-then-get_num_unused_bits
returns-then-get_num_unused_bits g c =
    let v = c.args.self.now in
    let w = c.args.other.now in
    c.eq.ensures ∙ ap (λ x. pointwise nat_eq x c.payload_view-then-get_num_unused_bits.result.now) c.payload_view.ensures.bytes ∙ ap (pointwise nat_eq (payload v)) c.payload_view-then-get_num_unused_bits.ensures.bytes
    ∙ same_tested v w (sym c.get_num_unused_bits.ensures ∙ c.if-get_num_unused_bits.true ∙ c.get_num_unused_bits-2.ensures)

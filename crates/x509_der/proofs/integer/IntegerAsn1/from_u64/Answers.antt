use Rattle.std.proofs.Common.{◌≡◌, drop, ap, ◌∙◌}
use Rattle.x509_der.specs.Integer.{signed_value}
use Rattle.x509_der.specs.facts.NaturalNumber.{natural_once, bytes_behind}
use Rattle.x509_der.proofs.integer.IntegerAsn1.from_u64.Goals as goal

pub returns : goal.returns
returns g c =
    let n = c.padding_len-count.ensures in
    let p = c.padded_digits-padded in
    let i : c.in_ok-bytes.bytes.items ≡ drop c.padding_len-count.result p.result = c.in_ok-bytes.ensures.items ∙ c.split_at.ensures.back in
    natural_once c.args.number c.in_ok-bytes.bytes.items (rw i (bytes_behind c.padding_len-count.result p.result p.ensures.bytes)) (rw i n.minimal) (ap signed_value i ∙ n.number ∙ p.ensures.number)

use Rattle.std.proofs.Common.{ap, ◌∙◌}
use Rattle.x509_der.specs.BitString.{used}
use Rattle.x509_der.specs.facts.BitEdits.{pads_zeros}
use Rattle.x509_der.proofs.bit_string.BitString.with_len.Goals as goal

pub invariant_of-result : goal.invariant_of-result
invariant_of-result g c = rw (c.in_ok-bytes.ensures.items_if_clones_equal (λ y h. h)) (pads_zeros c.args.bits c.bytes_for.result c.unused_in.result c.unused_in.ensures c.bytes_for.ensures).padded

pub returns : goal.returns
returns g c = ap (λ x. used x c.unused_in.result) (c.in_ok-bytes.ensures.items_if_clones_equal (λ y h. h)) ∙ (pads_zeros c.args.bits c.bytes_for.result c.unused_in.result c.unused_in.ensures c.bytes_for.ensures).used

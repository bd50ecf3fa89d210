use Rattle.std.proofs.Common.{◌≡◌, ◌<◌, length, set, ap, ◌∙◌, rules, arith}
use Rattle.std.proofs.lemmas.List.{with_items_is, places}
use Rattle.x509_der.specs.BitString.{bits_of, used}
use Rattle.x509_der.specs.facts.BitEdits.{pads_set}
use Rattle.x509_der.proofs.bit_string.BitString.set.Goals as goal

pub returns-clause-bits : goal.returns-clause-bits
returns-clause-bits g c =
    let s = c.self.inside.bytes in
    let t = c.put_bit.new.bytes in
    let u = c.self.inside.unused in
    let b : bits_of t ≡ set (bits_of s.items) c.args.index c.args.value = rw c.as_mut_slice.ensures.value at c.put_bit.ensures.bits in
    let l : c.args.index < length (used s.items u) = omega (arith, c.if-get_num_bits-index.false, c.get_num_bits.ensures, ap length c.self.view_is) in
    let p = pads_set s.items t u c.args.index c.args.value c.self.invariant l b in
    ap (λ x. used x u) (with_items_is s t (search (rules, places))) ∙ p.used ∙ ap (λ v. set v c.args.index c.args.value) c.self.view_is

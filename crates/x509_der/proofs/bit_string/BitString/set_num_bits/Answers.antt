use Rattle.std.proofs.Common.{◌≡◌, ◌-◌, ◌*◌, ◌++◌, List, ℕ, false, length, take, ap, sym, subst, ◌∙◌, rules}
use Rattle.std.specs.Prelude.{replicate}
use Rattle.std.proofs.lemmas.List.{with_items_is, places}
use Rattle.x509_der.specs.BitString.{bits_of, resized, used, IsPadded}
use Rattle.x509_der.specs.facts.BitEdits.{pads_resized}
use Rattle.x509_der.proofs.bit_string.BitString.set_num_bits.Goals as goal

pub invariant_of-self-2 : goal.invariant_of-self-2
invariant_of-self-2 g c =
    let m = c.resize_bytes.new.bytes in
    let t = c.clear_last.new.bytes in
    let u = c.unused_in-unused.result in
    let b : bits_of t ≡ take (8 * length m.items - u) (bits_of m.items) ++ replicate u false = rw c.as_mut_slice.ensures.value at c.clear_last.ensures.bits in
    let p = pads_resized c.self.inside.bytes.items m.items t c.self.inside.unused c.args.bits c.bytes_for.result u c.self.invariant c.unused_in-unused.ensures c.bytes_for.ensures c.in_ok-resize_bytes.ensures.ok b in
    let P : List ℕ → Type 0 = λ x. IsPadded x u in
    subst P (sym (with_items_is m t (search (rules, places)))) p.padded

pub returns-clause-ok : goal.returns-clause-ok
returns-clause-ok g c =
    let m = c.resize_bytes.new.bytes in
    let t = c.clear_last.new.bytes in
    let u = c.unused_in-unused.result in
    let b : bits_of t ≡ take (8 * length m.items - u) (bits_of m.items) ++ replicate u false = rw c.as_mut_slice.ensures.value at c.clear_last.ensures.bits in
    let p = pads_resized c.self.inside.bytes.items m.items t c.self.inside.unused c.args.bits c.bytes_for.result u c.self.invariant c.unused_in-unused.ensures c.bytes_for.ensures c.in_ok-resize_bytes.ensures.ok b in
    ap (λ x. used x u) (with_items_is m t (search (rules, places))) ∙ p.used ∙ ap (resized c.args.bits) c.self.view_is

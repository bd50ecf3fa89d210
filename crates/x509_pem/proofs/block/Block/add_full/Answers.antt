use Rattle.std.proofs.Common.{rules, arith, sym, ◌∙◌}
use Rattle.std.proofs.lemmas.Bool.{eqb-true}
use Rattle.std.proofs.lemmas.List.{nil_from_length}
use Rattle.x509_pem.proofs.Text.{full_kept, full_decodes}
use Rattle.x509_pem.proofs.block.Block.add_full.Goals as goal

pub invariant_of-self : goal.invariant_of-self
invariant_of-self g c =
    let self = c.args.self.now in
    let line = c.in-Some.ensures in
    let kept =
    full_kept c.extend_from_slice.result self.is_open self.bytes.items self.text.items c.in-Some.bytes
    c.extend_from_slice.new.self.items self.limit c.room.result (search rules)
    (record { octets = self.octets; groups = self.groups; fits = self.fits }) c.room.ensures (omega arith) line.1 line.2
    (search rules) in
    record { octets = kept.octets; groups = kept.groups; fits = kept.fits }

pub returns-in-Some-clause-decodes : goal.returns-in-Some-clause-decodes
returns-in-Some-clause-decodes g c =
    let self = c.args.self.now in
    let line = c.in-Some.ensures in
    let empty = eqb-true _ 0 (sym c.is_empty.ensures ∙ c.if-not-is_empty.false) in
    full_decodes c.extend_from_slice.result c.is_ok.result self.is_open self.label.items self.bytes.items self.text.items
    c.args.line.now c.in-Some.bytes c.extend_from_slice.new.self.items self.begun c.is_ok.ensures.value (self.groups (search rules))
    (nil_from_length _ (omega (arith, empty))) (omega arith) line.0 (search rules)

use Rattle.std.proofs.Common.{◌-◌, ◌++◌, length, take, drop, get_or, arith, ap, sym, ◌∙◌, refl}
use Rattle.std.specs.List.{flat_map}
use Rattle.x509_der_parts.specs.facts.Writing.{items_from, part_before}
use Rattle.x509_der.specs.facts.Numbers.{item_fits, items_start}
use Rattle.x509_der.specs.ObjectIdentifier.{septets}
use Rattle.x509_der.proofs.oid.numbers.write_numbers.Goals as goal

pub write_before-start-requires-clause-room : goal.write_before-start-requires-clause-room
write_before-start-requires-clause-room c =
    let l = c.loop-left in
    let ns = c.args.numbers.now in
    item_fits septets ns (l.left - 1) l.left l.start (length c.args.out.now) (get_or ns (l.left - 1) 0) 0 (omega (arith, c.loop-left-test.true)) (omega (arith, c.loop-left-test.true, l.invariant.within)) refl l.invariant.place c.requires

pub loop-left-preserved : goal.loop-left-preserved
loop-left-preserved c =
    let l = c.loop-left in
    let ns = c.args.numbers.now in
    let i = l.left - 1 in
    let x = get_or ns i 0 in
    let w = c.write_before-start.ensures in
    record {
      within = omega (arith, l.invariant.within);
      place = items_start septets ns i l.left l.start (length c.args.out.now) c.write_before-start.result x 0 (omega (arith, c.loop-left-test.true)) (omega (arith, c.loop-left-test.true, l.invariant.within)) refl l.invariant.place w.start;
      bytes = w.bytes ∙ part_before (septets x) (flat_map septets (drop l.left ns)) c.args.out.now l.out c.write_before-start.result l.start w.start (omega (arith, l.invariant.place)) l.invariant.bytes
          ∙ ap (λ t. take c.write_before-start.result c.args.out.now ++ t) (sym (items_from septets ns i l.left x 0 (omega (arith, c.loop-left-test.true)) (omega (arith, c.loop-left-test.true, l.invariant.within)) refl));
    }

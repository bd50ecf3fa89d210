use Rattle.std.proofs.Common.{arith}
use Rattle.x509_der.specs.facts.Element.{header_long}
use Rattle.x509_values.specs.facts.Elements.{shorter}
use Rattle.x509_values.proofs.TellingNames.{none_gone, one_gone, all_gone, name_content_at, name_told}
use Rattle.x509_values.proofs.attributes.attributes_within.Goals as goal

pub sets-init : goal.sets-init
sets-init g c = (omega arith, omega arith, λ v n slice string whole h rest at. none_gone string whole v n slice h c.args.out.now _ rest at)

pub sets-preserved : goal.sets-preserved
sets-preserved g c =
    let e = c.in-Some.ensures.takes in (
      omega (arith, header_long c.in-Some.set.inside.rest, e.inside, e.end, c.sets.invariant.0),
      omega (arith, header_long c.in-Some.set.inside.rest, e.inside, e.end, c.put_set-told.ensures.bound, c.sets.invariant.1),
      λ v n slice string whole h rest at.
          one_gone string whole v n slice h c.args.out.now c.sets.sets c.next.new.self c.sets.out _ c.sets.told c.sets.number c.put_set-told.result c.in-Some.set (c.sets.invariant.2 v n slice string whole h rest at) e c.put_set-told.ensures.told,
    )

pub sets-smaller : goal.sets-smaller
sets-smaller g c = omega (arith, shorter c.sets.sets c.next.new.self c.in-Some.set c.in-Some.ensures.takes)

pub returns : goal.returns
returns g c = λ v whole f.
    let k = name_content_at c.spellings_are_lawful.ensures.lawful v c.args.span c.args.bytes.now whole f c.over-name.result c.take.new.self c.take.result c.over-name.ensures c.take.ensures in
    name_told v c.args.span f.slice c.args.bytes.now whole _ k c.args.out.now c.sets.out c.sets.told (all_gone c.args.bytes.now whole v _ k.name.content k.name.inner.parts c.args.out.now c.sets.sets c.sets.out c.sets.told c.sets.number (c.sets.invariant.2 v _ k.name.content c.args.bytes.now whole k.name.inner.parts k.rest k.at) c.in_default.ensures.takes.0)

pub overflow_add-number : goal.overflow_add-number
overflow_add-number g c = let e = c.in-Some.ensures.takes in omega (arith, header_long c.in-Some.set.inside.rest, e.inside, e.end, c.sets.invariant.0, c.in-Some.ensures.fits)

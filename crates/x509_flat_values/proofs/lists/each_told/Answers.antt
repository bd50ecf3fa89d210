use Rattle.std.proofs.Common.{[], refl, arith}
use Rattle.x509_der.specs.facts.Element.{header_long}
use Rattle.x509_values.specs.facts.Elements.{shorter}
use Rattle.x509_values.proofs.Telling.{none_gone, one_gone, all_gone}
use Rattle.x509_flat_values.proofs.Listing.{all_told}
use Rattle.x509_flat_values.proofs.lists.each_told.Goals as goal

pub items-init : goal.items-init
items-init g c = (omega arith, λ v n slice string whole h rest at. none_gone g.T.Field.shape string whole (g.P.Placing.tells string whole) v n slice h [] c.args.out.now _ c.args.out.now 0 rest at refl refl)

pub items-preserved : goal.items-preserved
items-preserved g c =
    let e = c.in-Some.ensures.takes in (
      omega (arith, header_long c.in-Some.item.inside.rest, e.inside, e.end, c.items.invariant.0),
      λ v n slice string whole h rest at.
          one_gone g.T.Field.shape string whole (g.P.Placing.tells string whole) c.spellings_are_lawful.ensures.element.one v n slice h [] c.args.out.now c.items.items c.next.new.self c.items.out _ c.items.told c.in-Some.item c.placed.result (c.items.invariant.1 v n slice string whole h rest at) e
          (λ w m part stands bytes place. c.placed.ensures w m part string whole stands bytes place)
          (λ d m k. c.put.ensures d c.args.out.now m k),
    )

pub items-smaller : goal.items-smaller
items-smaller g c = omega (arith, shorter c.items.items c.next.new.self c.in-Some.item c.in-Some.ensures.takes)

pub returns : goal.returns
returns g c = λ v n slice string whole h rest at.
    all_told g.T.Field.shape string whole (g.P.Placing.tells string whole) v n slice h c.args.out.now c.items.out c.items.told
    (all_gone g.T.Field.shape string whole (g.P.Placing.tells string whole) c.spellings_are_lawful.ensures.element.one v n slice h [] c.args.out.now c.items.items c.items.out c.items.told (c.items.invariant.1 v n slice string whole h rest at) c.in_default.ensures.takes.0)

pub overflow_add-told : goal.overflow_add-told
overflow_add-told g c = let e = c.in-Some.ensures.takes in omega (arith, header_long c.in-Some.item.inside.rest, e.inside, e.end, c.items.invariant.0, c.in-Some.ensures.fits)

use Rattle.std.proofs.Common.{[], refl, arith}
use Rattle.x509_der.specs.facts.Element.{header_long}
use Rattle.picky_asn1_x509.specs.ExtendedKeyUsage.{key_purpose}
use Rattle.x509_values.specs.Purposes.{PurposeTold}
use Rattle.x509_values.specs.facts.Elements.{shorter}
use Rattle.x509_values.proofs.Telling.{none_gone, one_gone, all_gone}
use Rattle.x509_values.proofs.TellingPurposes.{list_content_at, purposes_told}
use Rattle.x509_values.proofs.purposes.purposes_within.Goals as goal

pub purposes-init : goal.purposes-init
purposes-init g c = (omega arith, λ v n slice string whole h rest at. none_gone key_purpose string whole (PurposeTold string whole) v n slice h [] c.args.out.now _ c.args.out.now 0 rest at refl refl)

pub purposes-preserved : goal.purposes-preserved
purposes-preserved g c =
    let e = c.in-Some.ensures.takes in (
      omega (arith, header_long c.in-Some.identifier.inside.rest, e.inside, e.end, c.purposes.invariant.0),
      λ v n slice string whole h rest at.
          one_gone key_purpose string whole (PurposeTold string whole) c.spellings_are_lawful-2.ensures.element.one v n slice h [] c.args.out.now c.purposes.purposes c.next.new.self c.purposes.out _ c.purposes.told c.in-Some.identifier c.placed.result (c.purposes.invariant.1 v n slice string whole h rest at) e
          (λ w m part stands bytes place. c.placed.ensures w m part string whole stands bytes place)
          (λ d m k. c.put.ensures d c.args.out.now m k),
    )

pub purposes-smaller : goal.purposes-smaller
purposes-smaller g c = omega (arith, shorter c.purposes.purposes c.next.new.self c.in-Some.identifier c.in-Some.ensures.takes)

pub returns : goal.returns
returns g c = λ v whole f.
    let k = list_content_at c.spellings_are_lawful.ensures.lawful v c.args.span c.args.bytes.now whole f c.over-list.result c.take.new.self c.take.result c.over-list.ensures c.take.ensures in
    purposes_told v c.args.span f.slice c.args.bytes.now whole _ k c.args.out.now c.purposes.out c.purposes.told (all_gone key_purpose c.args.bytes.now whole (PurposeTold c.args.bytes.now whole) c.spellings_are_lawful-2.ensures.element.one v _ k.list.content k.list.inner.parts [] c.args.out.now c.purposes.purposes c.purposes.out c.purposes.told (c.purposes.invariant.1 v _ k.list.content c.args.bytes.now whole k.list.inner.parts k.rest k.at) c.in_default.ensures.takes.0)

pub overflow_add-told : goal.overflow_add-told
overflow_add-told g c = let e = c.in-Some.ensures.takes in omega (arith, header_long c.in-Some.identifier.inside.rest, e.inside, e.end, c.purposes.invariant.0, c.in-Some.ensures.fits)

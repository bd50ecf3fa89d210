use Rattle.std.proofs.Common.{[], refl, arith}
use Rattle.x509_der.specs.facts.Element.{header_long}
use Rattle.x509_names.specs.GeneralNames.{general_name}
use Rattle.x509_values.specs.GeneralNames.{GeneralNameTold}
use Rattle.x509_values.specs.facts.Elements.{shorter}
use Rattle.x509_values.proofs.Telling.{none_gone, one_gone, all_gone}
use Rattle.x509_values.proofs.TellingGeneralNames.{list_content_at, names_told}
use Rattle.x509_values.proofs.general_names.general_names_within.Goals as goal

pub names-init : goal.names-init
names-init g c = (omega arith, λ v n slice string whole h rest at. none_gone general_name string whole (GeneralNameTold string whole) v n slice h [] c.args.out.now _ c.args.out.now 0 rest at refl refl)

pub names-preserved : goal.names-preserved
names-preserved g c =
    let e = c.in-Some.ensures.takes in (
      omega (arith, header_long c.in-Some.name.inside.rest, e.inside, e.end, c.names.invariant.0),
      λ v n slice string whole h rest at.
          one_gone general_name string whole (GeneralNameTold string whole) c.spellings_are_lawful-2.ensures.element.one v n slice h [] c.args.out.now c.names.names c.next.new.self c.names.out _ c.names.told c.in-Some.name c.placed.result (c.names.invariant.1 v n slice string whole h rest at) e
          (λ w m part stands bytes place. c.placed.ensures w m part string whole stands bytes place)
          (λ d m k. c.put.ensures d c.args.out.now m k),
    )

pub names-smaller : goal.names-smaller
names-smaller g c = omega (arith, shorter c.names.names c.next.new.self c.in-Some.name c.in-Some.ensures.takes)

pub returns : goal.returns
returns g c = λ v whole f.
    let k = list_content_at c.spellings_are_lawful.ensures.lawful v c.args.span c.args.bytes.now whole f c.over-list.result c.take.new.self c.take.result c.over-list.ensures c.take.ensures in
    names_told v c.args.span f.slice c.args.bytes.now whole _ k c.args.out.now c.names.out c.names.told (all_gone general_name c.args.bytes.now whole (GeneralNameTold c.args.bytes.now whole) c.spellings_are_lawful-2.ensures.element.one v _ k.list.content k.list.inner.parts [] c.args.out.now c.names.names c.names.out c.names.told (c.names.invariant.1 v _ k.list.content c.args.bytes.now whole k.list.inner.parts k.rest k.at) c.in_default.ensures.takes.0)

pub overflow_add-told : goal.overflow_add-told
overflow_add-told g c = let e = c.in-Some.ensures.takes in omega (arith, header_long c.in-Some.name.inside.rest, e.inside, e.end, c.names.invariant.0, c.in-Some.ensures.fits)

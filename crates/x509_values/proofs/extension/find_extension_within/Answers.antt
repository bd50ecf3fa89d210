use Rattle.std.proofs.Common.{arith}
use Rattle.x509_values.specs.facts.Elements.{shorter}
use Rattle.x509_values.proofs.TellingExtensions.{all_sought, one_passed, one_found, none_found, list_content_at}
use Rattle.x509_values.proofs.extension.find_extension_within.Goals as goal

pub items-init : goal.items-init
items-init g c = λ v n slice string whole h rest at. all_sought c.args.identifier.now string whole v n slice h _ rest at

pub items-preserved : goal.items-preserved
items-preserved g c = λ v n slice string whole h rest at.
    one_passed c.spellings_are_lawful-2.ensures.element.one c.args.identifier.now string whole v n slice h c.items.items c.next.new.self c.in-Some.extension (c.items.invariant v n slice string whole h rest at) c.in-Some.ensures.takes
    (λ w m part stands bytes place. c.in_default-value_if.ensures w m c.in-Some.extension.tag part string whole stands bytes place)

pub items-smaller : goal.items-smaller
items-smaller g c = omega (arith, shorter c.items.items c.next.new.self c.in-Some.extension c.in-Some.ensures.takes)

pub returns : goal.returns
returns g c = λ v whole f.
    let k = list_content_at c.spellings_are_lawful.ensures.lawful v c.args.span c.args.bytes.now whole f c.over-list.result c.take.new.self c.take.result c.over-list.ensures c.take.ensures in
    record { list = k.list; first = none_found c.spellings_are_lawful-2.ensures.element.one c.args.identifier.now c.args.bytes.now whole v _ k.list.content k.list.inner.parts c.items.items (c.items.invariant v _ k.list.content c.args.bytes.now whole k.list.inner.parts k.rest k.at) c.in_default.ensures.takes.0 }

pub returns-in-Some-value_if : goal.returns-in-Some-value_if
returns-in-Some-value_if g c = λ v whole f.
    let k = list_content_at c.spellings_are_lawful.ensures.lawful v c.args.span c.args.bytes.now whole f c.over-list.result c.take.new.self c.take.result c.over-list.ensures c.take.ensures in
    record {
      list = k.list;
      first = one_found c.spellings_are_lawful-2.ensures.element.one c.args.identifier.now c.args.bytes.now whole v _ k.list.content k.list.inner.parts c.items.items c.next.new.self c.in-Some.extension c.in-Some-value_if.value (c.items.invariant v _ k.list.content c.args.bytes.now whole k.list.inner.parts k.rest k.at) c.in-Some.ensures.takes
          (λ w m part stands bytes place. c.in-Some-value_if.ensures w m c.in-Some.extension.tag part c.args.bytes.now whole stands bytes place);
    }

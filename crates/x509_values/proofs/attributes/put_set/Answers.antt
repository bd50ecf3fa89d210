use Rattle.std.proofs.Common.{arith}
use Rattle.x509_names.specs.Attributes.{attribute}
use Rattle.x509_values.specs.Names.{AttributeTold}
use Rattle.x509_values.specs.facts.Elements.{shorter}
use Rattle.x509_values.proofs.Telling.{none_gone, one_gone, all_gone}
use Rattle.x509_values.proofs.TellingNames.{attribute_raw}
use Rattle.x509_values.proofs.attributes.put_set.Goals as goal

pub attributes-init : goal.attributes-init
attributes-init g c = (omega arith, λ set n slice string whole h rest at done base size is. none_gone attribute string whole (AttributeTold c.args.number string whole) set n slice h done base c.args.set c.args.out.now c.args.count rest at size is)

pub attributes-preserved : goal.attributes-preserved
attributes-preserved g c =
    let s = shorter c.attributes.attributes c.next.new.self c.in-Some.attribute c.in-Some.ensures.takes in (
      omega (arith, s, c.attributes.invariant.0),
      λ set n slice string whole h rest at done base size is.
          one_gone attribute string whole (AttributeTold c.args.number string whole) attribute_raw set n slice h done base c.attributes.attributes c.next.new.self c.attributes.out _ c.attributes.told c.in-Some.attribute c.placed.result (c.attributes.invariant.1 set n slice string whole h rest at done base size is) c.in-Some.ensures.takes
          (λ v m part stands bytes place. c.placed.ensures v m c.in-Some.attribute.tag part string whole stands bytes place)
          (λ d m k. c.put.ensures d base m k),
    )

pub attributes-smaller : goal.attributes-smaller
attributes-smaller g c = omega (arith, shorter c.attributes.attributes c.next.new.self c.in-Some.attribute c.in-Some.ensures.takes)

pub overflow_add-told : goal.overflow_add-told
overflow_add-told g c = omega (arith, shorter c.attributes.attributes c.next.new.self c.in-Some.attribute c.in-Some.ensures.takes, c.attributes.invariant.0, c.requires)

pub returns-clause-told : goal.returns-clause-told
returns-clause-told g c = λ set n slice string whole h rest at done base size is.
    all_gone attribute string whole (AttributeTold c.args.number string whole) attribute_raw set n slice h done base c.attributes.attributes c.attributes.out c.attributes.told (c.attributes.invariant.1 set n slice string whole h rest at done base size is) c.in_default.ensures.takes.0

pub returns-clause-bound : goal.returns-clause-bound
returns-clause-bound g c = omega (arith, c.attributes.invariant.0)

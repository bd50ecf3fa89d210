use Rattle.std.proofs.Common.{refl, arith}
use Rattle.std.proofs.Output.{has_written_append}
use Rattle.std.proofs.lemmas.List.{take_all}
use Rattle.x509_names.specs.facts.NameTexts.{texts_push, is_empty_push, one_more}
use Rattle.x509_names.proofs.pretty.write_set.Goals as goal

pub loop-attribute-preserved : goal.loop-attribute-preserved
loop-attribute-preserved g c =
    let more = one_more c.args.attributes.now c.loop-attribute.attribute-index c.attribute-item.result c.loop-attribute-test.true c.attribute-item.is in
    rw (more, is_empty_push, texts_push, ← c.loop-attribute.invariant.0) (
      refl,
      λ plain.
          let so_far = c.loop-attribute.invariant.1 plain in
          has_written_append _ _ _ _ _ _ so_far (c.in_ok-write_next.ensures so_far.plain refl),
    )

pub returns : goal.returns
returns g c = λ plain _. rw (take_all c.loop-attribute.attribute-index c.args.attributes.now (omega arith)) at c.loop-attribute.invariant.1 plain

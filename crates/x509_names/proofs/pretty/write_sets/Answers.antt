use Rattle.std.proofs.Common.{refl, ap, arith, sym, ◌∙◌, ◌&&◌}
use Rattle.std.proofs.Output.{has_written_append}
use Rattle.std.proofs.lemmas.List.{take_all}
use Rattle.x509_names.specs.facts.NameTexts.{texts-append, texts-name, is_empty-append, sets_more, tested_empty}
use Rattle.x509_names.proofs.pretty.write_sets.Goals as goal

pub loop-set-preserved : goal.loop-set-preserved
loop-set-preserved g c =
    let set = c.set-item.result in
    let more = sets_more c.args.sets.now c.loop-set.set-index set c.loop-set-test.true c.set-item.is in
    let same = c.as_slice-attributes.ensures.value ∙ c.set.view_is in
    rw (more, is_empty-append, texts-append, ← c.loop-set.invariant.0) (
      ap (λ b. c.loop-set.first && b) (rw same at c.is_empty-first.ensures ∙ sym (tested_empty set)),
      λ plain.
          let so_far = c.loop-set.invariant.1 plain in
          has_written_append _ _ _ _ _ _ so_far (rw same at c.in_ok-write_set.ensures so_far.plain refl),
    )

pub returns : goal.returns
returns g c = λ plain _. rw (take_all c.loop-set.set-index c.args.sets.now (omega arith), texts-name) at c.loop-set.invariant.1 plain

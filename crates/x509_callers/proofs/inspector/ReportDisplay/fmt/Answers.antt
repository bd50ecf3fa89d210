use Rattle.std.proofs.Common.{refl, arith}
use Rattle.std.proofs.Output.{has_written_append, has_written_of_eq}
use Rattle.std.proofs.lemmas.List.{take_all}
use Rattle.x509_callers.specs.facts.Reports.{lines_more}
use Rattle.x509_callers.proofs.inspector.ReportDisplay.fmt.Goals as goal

pub loop-place-preserved : goal.loop-place-preserved
loop-place-preserved g c = λ plain.
    let so_far = c.loop-place.invariant plain in
    has_written_of_eq _ _ _ _ _ (lines_more c.args.self.now.0.now c.loop-place.place-index _ c.loop-place-test.true)
    (has_written_append _ _ _ _ _ _ so_far (c.in_ok-write_place.ensures so_far.plain refl))

pub returns-clause-writes : goal.returns-clause-writes
returns-clause-writes g c = λ plain _. rw (take_all c.loop-place.place-index c.args.self.now.0.now (omega arith)) at c.loop-place.invariant plain

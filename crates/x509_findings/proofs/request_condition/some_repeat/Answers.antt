use Rattle.std.proofs.Common.{refl, sym, ◌∙◌, slice_index_or}
use Rattle.std.proofs.lemmas.Bool.{false≢true}
use Rattle.x509_findings_memory.specs.Repeats.{Repeats}
use Rattle.x509_findings_memory.proofs.Steps.{none_of, one_more, whichever}
use Rattle.x509_findings.proofs.request_condition.some_repeat.Goals as goal

pub returns-then-branch : goal.returns-then-branch
returns-then-branch g c = (
  λ t. (c.loop-list.list-index, c.list-item.result, c.loop-list-test.true, sym c.list-item.is, c.in_ok-list_repeats.ensures.0 c.if-branch.true),
  λ one. refl,
)

pub loop-list-preserved : goal.loop-list-preserved
loop-list-preserved g c =
    one_more (λ i. (d : _) → Repeats (slice_index_or c.args.lists.now i d) → ⊥) c.loop-list.list-index c.loop-list.invariant
    (whichever Repeats c.args.lists.now c.loop-list.list-index c.list-item.result c.loop-list-test.true c.list-item.is
    (λ u. false≢true (sym c.if-branch.false ∙ c.in_ok-list_repeats.ensures.1 u)))

pub returns : goal.returns
returns g c = (λ t. absurd (false≢true t), λ one. absurd (none_of Repeats c.args.lists.now c.loop-list.list-index c.loop-list-test.false c.loop-list.invariant one))

use Rattle.std.proofs.Common.{refl, sym, ◌∙◌, slice_index_or}
use Rattle.std.proofs.lemmas.Bool.{false≢true}
use Rattle.x509_findings_memory.specs.Orders.{IsUnsorted}
use Rattle.x509_findings_memory.proofs.Steps.{none_of, one_more, whichever}
use Rattle.x509_findings_memory.proofs.order.some_unsorted.Goals as goal

pub returns-then-branch : goal.returns-then-branch
returns-then-branch g c = (
  λ t. (c.loop-set.set-index, c.set-item.result, c.loop-set-test.true, sym c.set-item.is, rw (← c.set.view_is, ← c.as_slice.ensures.value) (c.in_ok-is_unsorted.ensures.0 c.if-branch.true)),
  λ one. refl,
)

pub loop-set-preserved : goal.loop-set-preserved
loop-set-preserved g c =
    one_more (λ i. (d : _) → IsUnsorted (slice_index_or c.args.sets.now i d) → ⊥) c.loop-set.set-index c.loop-set.invariant
    (whichever IsUnsorted c.args.sets.now c.loop-set.set-index c.set-item.result c.loop-set-test.true c.set-item.is
    (λ u. false≢true (sym c.if-branch.false ∙ c.in_ok-is_unsorted.ensures.1 (rw (c.as_slice.ensures.value, c.set.view_is) u))))

pub returns : goal.returns
returns g c = (λ t. absurd (false≢true t), λ one. absurd (none_of IsUnsorted c.args.sets.now c.loop-set.set-index c.loop-set-test.false c.loop-set.invariant one))

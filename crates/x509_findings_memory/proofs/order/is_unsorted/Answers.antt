use Rattle.std.proofs.Common.{sym, ◌∙◌}
use Rattle.std.proofs.lemmas.Bool.{false≢true}
use Rattle.x509_findings_memory.specs.Orders.{DescendsAt}
use Rattle.x509_findings_memory.proofs.Steps.{one_more}
use Rattle.x509_findings_memory.proofs.order.is_unsorted.Goals as goal

pub loop-index-preserved : goal.loop-index-preserved
loop-index-preserved g c =
    one_more (λ i. DescendsAt c.args.set.now i → ⊥) c.loop-index.index c.loop-index.invariant (λ d. false≢true (sym c.if-branch.false ∙ c.in_ok-descends_at.ensures.1 d))

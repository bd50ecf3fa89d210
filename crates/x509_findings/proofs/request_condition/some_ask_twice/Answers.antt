use Rattle.std.proofs.Common.{refl, sym, ◌∙◌, slice_index_or}
use Rattle.std.proofs.lemmas.Bool.{false≢true}
use Rattle.x509_findings.specs.Requests.{AsksTwice}
use Rattle.x509_findings_memory.proofs.Steps.{none_of, one_more, whichever}
use Rattle.x509_findings.proofs.request_condition.some_ask_twice.Goals as goal

pub returns-then-branch : goal.returns-then-branch
returns-then-branch g c = (
  λ t. (c.loop-attribute.attribute-index, c.attribute-item.result, c.loop-attribute-test.true, sym c.attribute-item.is, c.in_ok-asks_twice.ensures.0 c.if-branch.true),
  λ one. refl,
)

pub loop-attribute-preserved : goal.loop-attribute-preserved
loop-attribute-preserved g c =
    one_more (λ i. (d : _) → AsksTwice (slice_index_or c.args.attributes.now i d) → ⊥) c.loop-attribute.attribute-index c.loop-attribute.invariant
    (whichever AsksTwice c.args.attributes.now c.loop-attribute.attribute-index c.attribute-item.result c.loop-attribute-test.true c.attribute-item.is
    (λ u. false≢true (sym c.if-branch.false ∙ c.in_ok-asks_twice.ensures.1 u)))

pub returns : goal.returns
returns g c = (λ t. absurd (false≢true t), λ one. absurd (none_of AsksTwice c.args.attributes.now c.loop-attribute.attribute-index c.loop-attribute-test.false c.loop-attribute.invariant one))

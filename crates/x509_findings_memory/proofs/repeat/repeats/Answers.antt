use Rattle.std.proofs.Common.{refl, ap, ◌∙◌}
use Rattle.std.specs.BTreeSet.{contains}
use Rattle.std.proofs.lemmas.Bool.{false≢true}
use Rattle.x509_der.specs.ObjectIdentifier.{oid_content}
use Rattle.x509_findings_memory.proofs.Seen.{found, none, order, start, step, was_absent, was_there}
use Rattle.x509_findings_memory.proofs.repeat.repeats.Goals as goal

pub loop-extension-init : goal.loop-extension-init
loop-extension-init g c = start c.args.extensions.now c.new-seen.result c.new-seen.ensures.empty

pub loop-extension-preserved : goal.loop-extension-preserved
loop-extension-preserved g c =
    step c.args.extensions.now c.loop-extension.extension-index c.extension-item.result c.content.result c.loop-extension.seen c.insert.new.self c.loop-extension-test.true c.extension-item.is
    (rw (← c.extn_id.ensures, ← c.behind-extension.view_is) c.content.ensures.lawful)
    (c.content.ensures.content ∙ ap oid_content (c.behind-extension.view_is ∙ c.extn_id.ensures))
    (was_absent c.in-Ok-true.field-0 (contains order c.loop-extension.seen c.content.result) c.in-Ok-true.ensures.added c.in-Ok-true.field-0-test) c.in-Ok-true.ensures.updates.0 c.loop-extension.invariant

pub returns-in-Ok-false : goal.returns-in-Ok-false
returns-in-Ok-false g c = (
  λ t. found c.args.extensions.now c.loop-extension.extension-index c.extension-item.result c.loop-extension.seen c.content.result c.loop-extension-test.true c.extension-item.is
      (rw (← c.extn_id.ensures, ← c.behind-extension.view_is) c.content.ensures.lawful)
      (c.content.ensures.content ∙ ap oid_content (c.behind-extension.view_is ∙ c.extn_id.ensures))
      c.loop-extension.invariant (was_there c.in-Ok-false.field-0 (contains order c.loop-extension.seen c.content.result) c.in-Ok-false.ensures.added c.in-Ok-false.field-0-test),
  λ r. refl,
)

pub returns : goal.returns
returns g c = (λ t. absurd (false≢true t), λ r. absurd (none c.args.extensions.now c.loop-extension.extension-index c.loop-extension.seen c.loop-extension-test.false c.loop-extension.invariant r))

use Rattle.std.proofs.Common.{ap, sym, ◌∙◌}
use Rattle.std.specs.List.{list_all, slice_split}
use Rattle.x509_findings_parts.specs.Hosts.{is_dot, is_label}
use Rattle.x509_findings_parts.proofs.LabelSteps.{last_label, next_label, no_label}
use Rattle.x509_findings_parts.proofs.host.are_labels.Goals as goal

pub returns-then-not-is_label : goal.returns-then-not-is_label
returns-then-not-is_label c =
    sym (c.labels.invariant ∙ no_label c.labels.rest.now c.in-Some.at c.in-Some.ensures.0 c.in-Some.ensures.1 (ap is_label (sym c.split_at.ensures.front) ∙ sym c.is_label.ensures ∙ c.if-not-is_label.true))

pub labels-preserved : goal.labels-preserved
labels-preserved c =
    c.labels.invariant
    ∙ next_label c.labels.rest.now c.in-Some.at c.in-Some.ensures.0 c.in-Some.ensures.1 (ap is_label (sym c.split_at.ensures.front) ∙ sym c.is_label.ensures ∙ c.if-not-is_label.false)
    ∙ ap (λ r. list_all is_label (slice_split is_dot r)) (sym c.split_at-in-Some.ensures.back)

pub returns : goal.returns
returns c = c.is_label-2.ensures ∙ sym (last_label c.labels.rest.now c.in_default.ensures) ∙ sym c.labels.invariant

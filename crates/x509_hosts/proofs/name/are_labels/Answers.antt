use Rattle.x509_hosts.proofs.Labels.{no_label, next_label, ends_label, no_last}
use Rattle.x509_hosts.proofs.name.are_labels.Goals as goal

pub returns-then-not-is_label : goal.returns-then-not-is_label
returns-then-not-is_label c =
    no_label c.args.name.now c.labels.rest.now c.split_at.result.0.now c.in-Some.at c.is_label.result c.labels.invariant c.in-Some.ensures.0 c.in-Some.ensures.1 c.split_at.ensures.front c.is_label.ensures c.if-not-is_label.true

pub labels-preserved : goal.labels-preserved
labels-preserved c =
    next_label c.args.name.now c.labels.rest.now c.split_at.result.0.now c.split_at-in-Some.result.1.now c.in-Some.at c.is_label.result c.labels.invariant c.in-Some.ensures.0 c.in-Some.ensures.1 c.split_at.ensures.front c.split_at-in-Some.ensures.back c.is_label.ensures c.if-not-is_label.false

pub returns-then-is_label : goal.returns-then-is_label
returns-then-is_label c =
    ends_label c.args.name.now c.labels.rest.now c.is_label-2.result c.is_number.result c.labels.invariant c.in_default.ensures c.is_label-2.ensures c.if-is_label.true c.is_number.ensures

pub returns-else-is_label : goal.returns-else-is_label
returns-else-is_label c =
    no_last c.args.name.now c.labels.rest.now c.is_label-2.result c.labels.invariant c.in_default.ensures c.is_label-2.ensures c.if-is_label.false

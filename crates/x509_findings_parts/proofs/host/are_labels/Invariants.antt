use Rattle.std.proofs.Common.{◌≡◌, length}
use Rattle.std.specs.List.{list_all, slice_split}
use Rattle.x509_findings_parts.specs.Hosts.{is_dot, is_label}
use Rattle.x509_findings_parts.proofs.host.are_labels.Given as goal

-- what is left are labels where the whole is
abbrev pub invariant-labels : goal.invariant-labels
invariant-labels l = list_all is_label (slice_split is_dot l.name) ≡ list_all is_label (slice_split is_dot l.rest)

abbrev pub decreases-labels : goal.decreases-labels
decreases-labels l = length l.rest

use Rattle.std.proofs.Common.{◌↔◌, length}
use Rattle.x509_hosts.specs.Names.{AreLabels, labels}
use Rattle.x509_hosts.proofs.name.are_labels.Given as goal

abbrev pub invariant-labels : goal.invariant-labels
invariant-labels l = AreLabels (labels l.name) ↔ AreLabels (labels l.rest)

abbrev pub decreases-labels : goal.decreases-labels
decreases-labels l = length l.rest

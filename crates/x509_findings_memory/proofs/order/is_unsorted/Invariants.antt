use Rattle.std.proofs.Common.{◌<◌, ℕ}
use Rattle.x509_findings_memory.specs.Orders.{DescendsAt}
use Rattle.x509_findings_memory.proofs.order.is_unsorted.Given as goal

-- so far none stands in front of a lesser one
abbrev pub invariant-loop-index : goal.invariant-loop-index
invariant-loop-index g l = (i : ℕ) → i < l.index → DescendsAt l.set i → ⊥

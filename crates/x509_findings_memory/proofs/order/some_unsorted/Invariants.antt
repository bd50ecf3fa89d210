use Rattle.std.proofs.Common.{◌<◌, ℕ, slice_index_or}
use Rattle.x509_names.specs.Names.{Set}
use Rattle.x509_findings_memory.specs.Orders.{IsUnsorted}
use Rattle.x509_findings_memory.proofs.order.some_unsorted.Given as goal

-- so far none is unsorted
abbrev pub invariant-loop-set : goal.invariant-loop-set
invariant-loop-set g l = (i : ℕ) → i < l.set-index → (d : Set _) → IsUnsorted (slice_index_or l.sets i d) → ⊥

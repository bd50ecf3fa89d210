use Rattle.std.proofs.Common.{◌<◌, ℕ, List, slice_index_or}
use Rattle.picky_asn1_x509_parts.specs.Extensions.{ExtensionFields}
use Rattle.x509_findings_memory.specs.Repeats.{Repeats}
use Rattle.x509_findings.proofs.request_condition.some_repeat.Given as goal

-- so far none has an extension twice
abbrev pub invariant-loop-list : goal.invariant-loop-list
invariant-loop-list g l = (i : ℕ) → i < l.list-index → (d : List (ExtensionFields _)) → Repeats (slice_index_or l.lists i d) → ⊥

use Rattle.std.proofs.Common.{◌≡◌, ℕ, ◌<◌}
use Rattle.x509_findings_memory.specs.Orders.{octet_at}
use Rattle.x509_findings_memory.proofs.order.descends.Given as goal

-- so far the octets are the same
abbrev pub invariant-loop-place : goal.invariant-loop-place
invariant-loop-place l = (i : ℕ) → i < l.place → octet_at l.first i ≡ octet_at l.second i

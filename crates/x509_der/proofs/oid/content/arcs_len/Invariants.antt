use Rattle.std.proofs.Common.{◌≡◌, ◌+◌, take}
use Rattle.std.specs.Prelude.{count_by, nat_lt}
use Rattle.x509_der.proofs.oid.content.arcs_len.Given as goal

abbrev pub invariant-loop-byte : goal.invariant-loop-byte
invariant-loop-byte l = l.len ≡ count_by (λ b. nat_lt b 128) (take l.byte-index l.bytes) + 1

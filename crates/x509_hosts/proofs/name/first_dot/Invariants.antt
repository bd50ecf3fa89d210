use Rattle.std.proofs.Common.{◌≡◌, ◌<◌, ℕ, false, slice_index}
use Rattle.x509_hosts.specs.Names.{is_dot}
use Rattle.x509_hosts.proofs.name.first_dot.Given as goal

abbrev pub invariant-bytes : goal.invariant-bytes
invariant-bytes l = (k : ℕ) → k < l.index → is_dot (slice_index l.bytes k) ≡ false

use Rattle.std.proofs.Common.{◌≡◌, ◌<◌, ℕ, false, slice_index}
use Rattle.x509_findings_parts.specs.Hosts.{is_dot}
use Rattle.x509_findings_parts.proofs.host.first_dot.Given as goal

abbrev pub invariant-octets : goal.invariant-octets
invariant-octets l = (k : ℕ) → k < l.index → is_dot (slice_index l.octets k) ≡ false

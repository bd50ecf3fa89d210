use Rattle.std.proofs.Common.{◌≡◌, ◌<◌, ℕ, false, slice_index}
use Rattle.x509_findings_parts.specs.Hosts.{is_no_scheme_octet}
use Rattle.x509_findings_parts.proofs.host.scheme_size.Given as goal

abbrev pub invariant-octets : goal.invariant-octets
invariant-octets l = (k : ℕ) → k < l.index → is_no_scheme_octet (slice_index l.text k) ≡ false

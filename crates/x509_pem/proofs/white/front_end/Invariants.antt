use Rattle.std.proofs.Common.{◌≡◌, ◌<◌, ℕ, true, slice_index}
use Rattle.x509_pem.specs.Text.{is_white}
use Rattle.x509_pem.proofs.white.front_end.Given as goal

abbrev pub invariant-bytes : goal.invariant-bytes
invariant-bytes l = (k : ℕ) → k < l.at → is_white (slice_index l.bytes k) ≡ true

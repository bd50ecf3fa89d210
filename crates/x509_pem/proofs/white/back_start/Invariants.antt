use Rattle.std.proofs.Common.{◌-◌, ◌≡◌, ◌≤◌, ◌<◌, ℕ, true, length, slice_index}
use Rattle.x509_pem.specs.Text.{is_white}
use Rattle.x509_pem.proofs.white.back_start.Given as goal

abbrev pub invariant-bytes : goal.invariant-bytes
invariant-bytes l =
    record {
      low : l.start ≤ l.end;
      high : l.end ≤ length l.bytes;
      white : (k : ℕ) → l.end ≤ k → k < length l.bytes → is_white (slice_index l.bytes k) ≡ true;
    }

abbrev pub decreases-bytes : goal.decreases-bytes
decreases-bytes l = l.end - l.start

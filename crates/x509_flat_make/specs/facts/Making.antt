-- What is made, and then written.
use Rattle.std.proofs.Common.{◌≡◌, ℕ, ◌≤◌, ◌^◌, List, length, subst}
use Rattle.x509_flat.specs.Encodings.{Writes}
use Rattle.x509_flat.specs.declared.status.Status.{Status}
use Rattle.x509_flat_make.specs.Making.{Makes}

pub written : (Made : List ℕ → Type 0) (Refuses Long : Type 0) (string bytes old new : List ℕ) (status : Status) (size : ℕ) → string ≡ bytes → Made bytes → (2 ^ 64 ≤ length bytes → Long) → Writes string old new status size → Makes Made Refuses Long old new status size
written Made Refuses Long string bytes old new status size e made long w =
    let P : List ℕ → Type 0 = λ x. Writes x old new status size in
    let h = subst P e w in
    record {
      done = λ s. record { bytes = bytes; made = made; holds = h.done s };
      short = λ s. record { bytes = bytes; made = made; holds = h.short s };
      long = λ s. ((h.long s).0, long (h.long s).1);
      refused = λ s. absurd (h.refused s);
      memory = λ s. absurd (h.memory s);
      unknown = λ s. h.unknown s;
    }

-- What follows from the laws of a shape.
use Rattle.std.proofs.Common.{◌≡◌, ℕ, List, []}
use Rattle.x509_der_parts.specs.Shape.{Shape}
use Rattle.x509_der_parts.specs.Tally.{Tally}

-- the bytes are spelled with the value
abbrev pub IsSpelled : {V : Type 0} → Shape V → V → List ℕ → Type 0
IsSpelled s v p = (y : Tally) × s.spelled v p y

-- and with no deviation
pub record IsSpelledClean {V : Type 0} (s : Shape V) (v : V) (p : List ℕ) : Type 0 where
  pub headers : ℕ
  pub spelled : s.spelled v p (record { marks = []; headers = headers })

-- the value is spelled with no deviation by what is written of it, and what is read from that is the value, of which the same is written
pub record ReadsBack {V : Type 0} (s : Shape V) (strict : V → List ℕ) (v : V) : Type 0 where
  pub headers : ℕ
  pub spelled : s.spelled v (strict v) (record { marks = []; headers = headers })
  pub only : (w : V) (z : Tally) → s.spelled w (strict v) z → (w ≡ v) × (strict w ≡ strict v) × (z.marks ≡ [])

-- What is asked of the times between which a certificate is valid (RFC 5280, 4.1.2.5).
use Rattle.std.specs.Prelude.{◌≡◌, ◌<◌, ◌⊎◌, ℕ}
use Rattle.x509_prim.specs.Calendar.{Moment}
use Rattle.x509_names.specs.Types.{Time}
use Rattle.x509_names.specs.Types.time.{Utc, Generalized}

-- the second that a time says, in either of its forms
abbrev pub moment_in : Time → Moment
moment_in (Utc t) = t
moment_in (Generalized t) = t

abbrev pub date_in : Moment → ℕ × ℕ × ℕ
date_in m = (m.year, m.month, m.day)

abbrev pub clock_in : Moment → ℕ × ℕ × ℕ
clock_in m = (m.hour, m.minute, m.second)

-- of three numbers, the first that differs is less
abbrev pub Less : (m n : ℕ × ℕ × ℕ) → Type 0
Less m n = (m.0 < n.0) ⊎ ((m.0 ≡ n.0) × ((m.1 < n.1) ⊎ ((m.1 ≡ n.1) × (m.2 < n.2))))

-- one second comes before another
abbrev pub IsBefore : Moment → Moment → Type 0
IsBefore m n = Less (date_in m) (date_in n) ⊎ ((date_in m ≡ date_in n) × Less (clock_in m) (clock_in n))

-- a GeneralizedTime before the year 2050: dates through the year 2049 must be encoded as UTCTime (RFC 5280, 4.1.2.5)
abbrev pub IsEarly : Time → Type 0
IsEarly (Utc t) = ⊥
IsEarly (Generalized t) = t.year < 2050

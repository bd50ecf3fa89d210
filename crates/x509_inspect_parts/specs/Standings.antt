-- How a time stands to that for which something is valid (RFC 5280, 4.1.2.5): from one second through another.
use Rattle.std.specs.Prelude.{◌≡◌, ◌<◌, ◌⊎◌, ℕ}
use Rattle.x509_report_parts.specs.declared.sink.Moment.{Moment}

-- of three numbers, the first that differs is less
abbrev pub Less : (a b c d e f : ℕ) → Type 0
Less a b c d e f = (a < d) ⊎ ((a ≡ d) × ((b < e) ⊎ ((b ≡ e) × (c < f))))

-- one day comes before another: by year, month and day
abbrev pub DateBefore : (first second : ℕ × ℕ × ℕ) → Type 0
DateBefore first second = Less first.0 first.1 first.2 second.0 second.1 second.2

-- one second of a day comes before another: by hour, minute and second
abbrev pub ClockBefore : (first second : ℕ × ℕ × ℕ) → Type 0
ClockBefore first second = Less first.0 first.1 first.2 second.0 second.1 second.2

-- one second comes before another
abbrev pub Before : Moment → Moment → Type 0
Before m n = DateBefore m.date n.date ⊎ ((m.date ≡ n.date) × ClockBefore m.time n.time)

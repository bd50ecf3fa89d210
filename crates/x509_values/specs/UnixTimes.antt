-- Seconds since 1970-01-01 00:00:00 in UTC, without leap seconds (POSIX.1, 4.19): the days of the calendar, counted.
use Rattle.std.specs.Prelude.{◌≡◌, ℕ, zero, suc, ◌+◌, ◌-◌, ◌*◌, ◌%◌, ◌==◌, ◌&&◌, ◌||◌, not, Bool, if◌then◌else◌, List, [], ◌∷◌, take, sum, ◌⊎◌, ℤ, pos, ◌-ℤ◌, ◌+ℤ◌}
use Rattle.x509_prim.specs.Calendar.{Moment, IsDay, IsMoment, moment}

-- 4 divides the year, and 100 doesn't or 400 does
abbrev pub is_leap : ℕ → Bool
is_leap year = (year % 4 == 0) && (not (year % 100 == 0) || (year % 400 == 0))

-- how many days the months of a year have, from January on
abbrev pub month_lengths : Bool → List ℕ
month_lengths leap = 31 ∷ (if leap then 29 else 28) ∷ 31 ∷ 30 ∷ 31 ∷ 30 ∷ 31 ∷ 31 ∷ 30 ∷ 31 ∷ 30 ∷ 31 ∷ []

-- how many days of a year stand before a month
abbrev pub days_before_month : ℕ → ℕ → ℕ
days_before_month year month = sum (take (month - 1) (month_lengths (is_leap year)))

-- how many days stand before a year, from the year 0 on
unfoldable pub days_before_year : ℕ → ℕ
days_before_year zero = 0
days_before_year (suc year) = days_before_year year + sum (month_lengths (is_leap year))

-- how many days stand before a day, from the year 0 on
abbrev pub days_before : ℕ → ℕ → ℕ → ℕ
days_before year month day = days_before_year year + days_before_month year month + (day - 1)

-- how many seconds of its day stand before a moment
abbrev pub second_of_day : Moment → ℕ
second_of_day t = t.hour * 3600 + t.minute * 60 + t.second

-- how many seconds stand before a moment, from the year 0 on
abbrev pub seconds_before : Moment → ℕ
seconds_before t = days_before t.year t.month t.day * 86400 + second_of_day t

-- the same from 1970 on, before which there are as many seconds as in 719,528 days
abbrev pub unix_seconds : Moment → ℤ
unix_seconds t = pos (seconds_before t) -ℤ pos 62167219200

-- one day behind another: the next of the month; else, where the month has no such day, the first of the next month, or of the next year
abbrev pub IsNextDay : Moment → Moment → Type 0
IsNextDay t u =
    ((u.year ≡ t.year) × (u.month ≡ t.month) × (u.day ≡ t.day + 1))
    ⊎ (((IsDay t.year t.month (t.day + 1) → ⊥) × (u.year ≡ t.year) × (u.month ≡ t.month + 1) × (u.day ≡ 1))
    ⊎ ((t.month ≡ 12) × (t.day ≡ 31) × (u.year ≡ t.year + 1) × (u.month ≡ 1) × (u.day ≡ 1)))

-- one second behind another: the next of the day; else the first of the next day
abbrev pub IsNextSecond : Moment → Moment → Type 0
IsNextSecond t u =
    ((u.year ≡ t.year) × (u.month ≡ t.month) × (u.day ≡ t.day) × (second_of_day u ≡ second_of_day t + 1))
    ⊎ ((second_of_day t ≡ 86399) × (second_of_day u ≡ 0) × IsNextDay t u)

-- the numbers of seconds: 0 is the first of 1970, and each second's is one more than that of the one before it
pub record CountSeconds (of : Moment → ℤ) : Type 0 where
  pub epoch : of (moment 1970 1 1 0 0 0) ≡ pos 0
  pub next : (t u : Moment) → IsMoment t → IsMoment u → IsNextSecond t u → of u ≡ of t +ℤ pos 1

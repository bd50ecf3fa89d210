-- The Gregorian calendar carried back to the year 0, and the seconds of its days.
use Rattle.std.specs.Prelude.{◌≡◌, ℕ, ◌%◌, ◌<◌, ◌≤◌, ◌≢◌, ◌⊎◌}

-- 4 divides the year, and 100 doesn't or 400 does
abbrev pub IsLeap : ℕ → Type 0
IsLeap year = (year % 4 ≡ 0) × ((year % 100 ≢ 0) ⊎ (year % 400 ≡ 0))

-- the calendar has this day
pub record IsDay (year month day : ℕ) : Type 0 where
  pub from_january : 1 ≤ month
  pub to_december : month ≤ 12
  pub from_first : 1 ≤ day
  pub to_last : day ≤ 31
  pub short_months : (month ≡ 4) ⊎ ((month ≡ 6) ⊎ ((month ≡ 9) ⊎ (month ≡ 11))) → day ≤ 30
  pub february : month ≡ 2 → day ≤ 29
  pub common_february : month ≡ 2 → ¬ (IsLeap year) → day ≤ 28

-- six numbers that name a second
pub record Moment : Type 0 where
  pub year : ℕ
  pub month : ℕ
  pub day : ℕ
  pub hour : ℕ
  pub minute : ℕ
  pub second : ℕ

abbrev pub moment : ℕ → ℕ → ℕ → ℕ → ℕ → ℕ → Moment
moment year month day hour minute second =
    record { year = year; month = month; day = day; hour = hour; minute = minute; second = second }

-- a second of a day of the years 0 to 9999
pub record IsMoment (t : Moment) : Type 0 where
  pub in_years : t.year ≤ 9999
  pub on_day : IsDay t.year t.month t.day
  pub in_day : t.hour < 24
  pub in_hour : t.minute < 60
  pub in_minute : t.second < 60

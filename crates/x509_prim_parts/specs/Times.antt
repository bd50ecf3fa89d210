-- UTCTime and GeneralizedTime as texts in ASCII (X.690, 11.7 and 11.8; RFC 5280, 4.1.2.5.1 and 4.1.2.5.2).
use Rattle.std.specs.Prelude.{◌≡◌, ℕ, ◌+◌, ◌/◌, ◌%◌, ◌<◌, ◌≤◌, List, [], ◌∷◌, ◌++◌, nat_lt, if◌then◌else◌}
use Rattle.x509_der.specs.Shape.{Shape}
use Rattle.x509_der.specs.PrimitiveContent.{plain}
use Rattle.x509_prim_parts.specs.Calendar.{Moment, IsMoment}

-- a number below 100 as two decimal digits
abbrev pub two_digits : ℕ → List ℕ
two_digits n = (48 + n / 10) ∷ (48 + n % 10) ∷ []

-- MMDDHHMMSSZ, which both types have behind the year; from its day, hour, minute and second on
abbrev pub from_second : Moment → List ℕ
from_second t = two_digits t.second ++ 90 ∷ []

abbrev pub from_minute : Moment → List ℕ
from_minute t = two_digits t.minute ++ from_second t

abbrev pub from_hour : Moment → List ℕ
from_hour t = two_digits t.hour ++ from_minute t

abbrev pub from_day : Moment → List ℕ
from_day t = two_digits t.day ++ from_hour t

abbrev pub from_month : Moment → List ℕ
from_month t = two_digits t.month ++ from_day t

-- the year that YY means: from 50 on it is 19YY, and below 50 it is 20YY (RFC 5280, 4.1.2.5.1)
abbrev pub full_year : ℕ → ℕ
full_year yy = if nat_lt yy 50 then 2000 + yy else 1900 + yy

-- p is the text of the moment as a UTCTime, YYMMDDHHMMSSZ
pub record IsUtcText (t : Moment) (p : List ℕ) : Type 0 where
  pub lawful : IsMoment t
  pub yy : ℕ
  pub two : yy < 100
  pub year : t.year ≡ full_year yy
  pub bytes : p ≡ two_digits yy ++ from_month t

-- the moments that UTCTime has texts of
pub record IsUtc (t : Moment) : Type 0 where
  pub lawful : IsMoment t
  pub from_1950 : 1950 ≤ t.year
  pub to_2049 : t.year ≤ 2049

abbrev pub utc_text : Moment → List ℕ
utc_text t = two_digits (t.year % 100) ++ from_month t

-- a UTCTime's content, which is read without memory
abbrev pub utc_times : Shape Moment
utc_times = plain IsUtcText utc_text IsUtc (Unit {0})

-- YYYYMMDDHHMMSSZ
abbrev pub generalized_text : Moment → List ℕ
generalized_text t = two_digits (t.year / 100) ++ (two_digits (t.year % 100) ++ from_month t)

-- p is the text of the moment as a GeneralizedTime
abbrev pub IsGeneralizedText : Moment → List ℕ → Type 0
IsGeneralizedText t p = IsMoment t × (p ≡ generalized_text t)

-- a GeneralizedTime's content, which is read without memory
abbrev pub generalized_times : Shape Moment
generalized_times = plain IsGeneralizedText generalized_text IsMoment (Unit {0})

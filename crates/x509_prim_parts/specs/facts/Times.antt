-- Facts about the texts of times: each has one moment.
use Rattle.std.proofs.Common.{◌≡◌, ℕ, ◌+◌, ◌/◌, ◌%◌, ◌<◌, ◌≤◌, List, [], ◌∷◌, ◌++◌, refl, sym, ap, ◌∙◌, arith}
use Rattle.std.proofs.lemmas.Bool.Decides.{nat_tests}
use Rattle.x509_der.specs.Shape.{Lawful}
use Rattle.x509_der.specs.laws.PrimitiveContent.{IsPlain, plain_lawful}
use Rattle.x509_prim_parts.specs.Calendar.{Moment, IsMoment, moment}
use Rattle.x509_prim_parts.specs.Times.{two_digits, from_second, from_minute, from_hour, from_day, from_month, full_year, IsUtcText, IsUtc, utc_text, utc_times, IsGeneralizedText, generalized_text, generalized_times}

-- two digits say one number, and where they end is known
pub record SameDigits (a b : ℕ) (r q : List ℕ) : Type 0 where
  pub number : a ≡ b
  pub rest : r ≡ q

heads : (a b x y : ℕ) (r q : List ℕ) → a ∷ x ∷ r ≡ b ∷ y ∷ q → (a ≡ b) × (x ≡ y) × (r ≡ q)
heads a b x y r q e = (cc, cc, cc)

pub same_digits : (a b : ℕ) (r q : List ℕ) → two_digits a ++ r ≡ two_digits b ++ q → SameDigits a b r q
same_digits a b r q e =
    let h = heads (48 + a / 10) (48 + b / 10) (48 + a % 10) (48 + b % 10) r q e in
    record { number = omega (arith, h.0, h.1); rest = h.2 }

same_numbers : (a b c d e f a2 b2 c2 d2 e2 f2 : ℕ) → a ≡ a2 → b ≡ b2 → c ≡ c2 → d ≡ d2 → e ≡ e2 → f ≡ f2 → moment a b c d e f ≡ moment a2 b2 c2 d2 e2 f2
same_numbers a b c d e f a2 b2 c2 d2 e2 f2 p q r s t u = rw (p, q, r, s, t, u) refl

-- the moments of one text and one year are the same
pub same_time : (t u : Moment) → t.year ≡ u.year → from_month t ≡ from_month u → t ≡ u
same_time t u y e =
    let s1 = same_digits t.month u.month (from_day t) (from_day u) e in
    let s2 = same_digits t.day u.day (from_hour t) (from_hour u) s1.rest in
    let s3 = same_digits t.hour u.hour (from_minute t) (from_minute u) s2.rest in
    let s4 = same_digits t.minute u.minute (from_second t) (from_second u) s3.rest in
    let s5 = same_digits t.second u.second (90 ∷ []) (90 ∷ []) s4.rest in
    same_numbers t.year t.month t.day t.hour t.minute t.second u.year u.month u.day u.hour u.minute u.second y s1.number s2.number s3.number s4.number s5.number

-- UTCTime
utc_one : (t u : Moment) (p : List ℕ) → IsUtcText t p → IsUtcText u p → t ≡ u
utc_one t u p a b =
    let s = same_digits a.yy b.yy (from_month t) (from_month u) (sym a.bytes ∙ b.bytes) in
    same_time t u (a.year ∙ ap full_year s.number ∙ sym b.year) s.rest

-- the two digits of a year that they mean, and its century
two_of_year : (year : ℕ) → 1950 ≤ year → year ≤ 2049 → year ≡ full_year (year % 100)
two_of_year year a b = grind (arith, nat_tests)

year_of_two : (year yy : ℕ) → yy < 100 → year ≡ full_year yy → (yy ≡ year % 100) × (1950 ≤ year) × (year ≤ 2049)
year_of_two year yy a b = (grind (arith, nat_tests), grind (arith, nat_tests), grind (arith, nat_tests))

pub utc_plain : IsPlain IsUtcText utc_text IsUtc
utc_plain = record {
  one = utc_one;
  written = λ t d. record { lawful = d.lawful; yy = t.year % 100; two = omega arith; year = two_of_year t.year d.from_1950 d.to_2049; bytes = refl };
  strict = λ t p a. let k = year_of_two t.year a.yy a.two a.year in a.bytes ∙ ap (λ n. two_digits n ++ from_month t) k.0;
  valid = λ t p a. let k = year_of_two t.year a.yy a.two a.year in record { lawful = a.lawful; from_1950 = k.1; to_2049 = k.2 };
}

pub utc_lawful : Lawful utc_times
utc_lawful = plain_lawful IsUtcText utc_text IsUtc (Unit {0}) utc_plain

-- GeneralizedTime
generalized_one : (t u : Moment) (p : List ℕ) → IsGeneralizedText t p → IsGeneralizedText u p → t ≡ u
generalized_one t u p a b =
    let s1 = same_digits (t.year / 100) (u.year / 100) (two_digits (t.year % 100) ++ from_month t) (two_digits (u.year % 100) ++ from_month u) (sym a.1 ∙ b.1) in
    let s2 = same_digits (t.year % 100) (u.year % 100) (from_month t) (from_month u) s1.rest in
    same_time t u (omega (arith, s1.number, s2.number)) s2.rest

pub generalized_plain : IsPlain IsGeneralizedText generalized_text IsMoment
generalized_plain = record {
  one = generalized_one;
  written = λ t d. (d, refl);
  strict = λ t p a. a.1;
  valid = λ t p a. a.0;
}

pub generalized_lawful : Lawful generalized_times
generalized_lawful = plain_lawful IsGeneralizedText generalized_text IsMoment (Unit {0}) generalized_plain

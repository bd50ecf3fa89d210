-- The days before a year and a month, without counting them, and the seconds one behind another.
use Rattle.std.proofs.Common.{◌≡◌, ℕ, zero, suc, ◌+◌, ◌-◌, ◌*◌, ◌/◌, ◌==◌, ◌&&◌, ◌||◌, ◌<◌, ◌≤◌, ◌⊎◌, Bool, true, false, List, [], ◌∷◌, take, sum, get_or, nat_lt, refl, ap, ◌∙◌, arith, if◌then◌else◌, inl, inr, true≢false}
use Rattle.std.proofs.lemmas.Bool.Decides.{nat_tests}
use Rattle.std.proofs.lemmas.Int.{ints}
use Rattle.x509_prim.specs.Calendar.{Moment, IsLeap, IsDay, IsMoment}
use Rattle.x509_values.specs.UnixTimes.{is_leap, month_lengths, days_before_month, days_before_year, days_before, seconds_before, unix_seconds, IsNextDay, IsNextSecond, CountSeconds}

year_length : (leap : Bool) → sum (month_lengths leap) ≡ if leap then 366 else 365
year_length true = refl
year_length false = refl

leap_step : (year : ℕ) → (if is_leap year then 366 else 365) + ((year + 100) / 100 + (year + 3) / 4 + (year + 399) / 400) ≡ 365 + ((year + 99) / 100 + (year + 4) / 4 + (year + 400) / 400)
leap_step year = grind (arith, nat_tests)

pub years_counted : (year : ℕ) → days_before_year year + (year + 99) / 100 ≡ 365 * year + (year + 3) / 4 + (year + 399) / 400
unfolding days_before_year
years_counted zero = refl
years_counted (suc year) = omega (arith, years_counted year, leap_step year, year_length (is_leap year))

-- of twelve months
each_month : (P : ℕ → Type 0) → P 0 → P 1 → P 2 → P 3 → P 4 → P 5 → P 6 → P 7 → P 8 → P 9 → P 10 → P 11 → (n : ℕ) → n < 12 → P n
each_month P a b c d e f g h i j k l zero _ = a
each_month P a b c d e f g h i j k l (suc zero) _ = b
each_month P a b c d e f g h i j k l (suc (suc zero)) _ = c
each_month P a b c d e f g h i j k l (suc (suc (suc zero))) _ = d
each_month P a b c d e f g h i j k l (suc (suc (suc (suc zero)))) _ = e
each_month P a b c d e f g h i j k l (suc (suc (suc (suc (suc zero))))) _ = f
each_month P a b c d e f g h i j k l (suc (suc (suc (suc (suc (suc zero)))))) _ = g
each_month P a b c d e f g h i j k l (suc (suc (suc (suc (suc (suc (suc zero))))))) _ = h
each_month P a b c d e f g h i j k l (suc (suc (suc (suc (suc (suc (suc (suc zero)))))))) _ = i
each_month P a b c d e f g h i j k l (suc (suc (suc (suc (suc (suc (suc (suc (suc zero))))))))) _ = j
each_month P a b c d e f g h i j k l (suc (suc (suc (suc (suc (suc (suc (suc (suc (suc zero)))))))))) _ = k
each_month P a b c d e f g h i j k l (suc (suc (suc (suc (suc (suc (suc (suc (suc (suc (suc zero))))))))))) _ = l
each_month P a b c d e f g h i j k l (suc (suc (suc (suc (suc (suc (suc (suc (suc (suc (suc (suc n)))))))))))) less = absurd (omega (arith, less))

abbrev pub before_months : List ℕ
before_months = 0 ∷ 31 ∷ 59 ∷ 90 ∷ 120 ∷ 151 ∷ 181 ∷ 212 ∷ 243 ∷ 273 ∷ 304 ∷ 334 ∷ []

months_in : (leap : Bool) (n : ℕ) → n < 12 → sum (take n (month_lengths leap)) ≡ get_or before_months n 0 + (if leap && nat_lt 1 n then 1 else 0)
months_in true = each_month (λ n. sum (take n (month_lengths true)) ≡ get_or before_months n 0 + (if true && nat_lt 1 n then 1 else 0)) refl refl refl refl refl refl refl refl refl refl refl refl
months_in false = each_month (λ n. sum (take n (month_lengths false)) ≡ get_or before_months n 0 + (if false && nat_lt 1 n then 1 else 0)) refl refl refl refl refl refl refl refl refl refl refl refl

pub few_days : (n : ℕ) → n < 12 → get_or before_months n 0 ≤ 334
few_days = each_month (λ n. get_or before_months n 0 ≤ 334) (omega arith) (omega arith) (omega arith) (omega arith) (omega arith) (omega arith) (omega arith) (omega arith) (omega arith) (omega arith) (omega arith) (omega arith)

pub months_counted : (year month : ℕ) → 1 ≤ month → month ≤ 12 → days_before_month year month ≡ get_or before_months (month - 1) 0 + (if is_leap year && nat_lt 1 (month - 1) then 1 else 0)
months_counted year month low high = months_in (is_leap year) (month - 1) (omega (arith, low, high))

-- how many days a month has
month_length : Bool → ℕ → ℕ
month_length leap month = if month == 2 then (if leap then 29 else 28) else (if (month == 4) || ((month == 6) || ((month == 9) || (month == 11))) then 30 else 31)

length_is : (leap : Bool) (n : ℕ) → n < 12 → sum (take (n + 1) (month_lengths leap)) ≡ sum (take n (month_lengths leap)) + month_length leap (n + 1)
unfolding month_length
length_is true = each_month (λ n. sum (take (n + 1) (month_lengths true)) ≡ sum (take n (month_lengths true)) + month_length true (n + 1)) refl refl refl refl refl refl refl refl refl refl refl refl
length_is false = each_month (λ n. sum (take (n + 1) (month_lengths false)) ≡ sum (take n (month_lengths false)) + month_length false (n + 1)) refl refl refl refl refl refl refl refl refl refl refl refl

leap_is : (year : ℕ) → is_leap year ≡ true → IsLeap year
leap_is year e = grind (arith, nat_tests, e)

not_leap : (year : ℕ) → is_leap year ≡ false → IsLeap year → ⊥
not_leap year e h = grind (arith, nat_tests, e, h.0, h.1)

either : {P : Type 0} (b : Bool) → (b ≡ true → P) → (b ≡ false → P) → P
either true t f = t refl
either false t f = f refl

-- a day is one of its month
within_month : (year month day : ℕ) → IsDay year month day → day ≤ month_length (is_leap year) month
unfolding month_length
within_month year month day d =
    let april : month ≡ 4 → day ≤ 30 = λ e. d.short_months (inl e) in
    let june : month ≡ 6 → day ≤ 30 = λ e. d.short_months (inr (inl e)) in
    let september : month ≡ 9 → day ≤ 30 = λ e. d.short_months (inr (inr (inl e))) in
    let november : month ≡ 11 → day ≤ 30 = λ e. d.short_months (inr (inr (inr e))) in
    let february : month ≡ 2 → day ≤ 29 = d.february in
    let common : month ≡ 2 → is_leap year ≡ false → day ≤ 28 = λ e f. d.common_february e (not_leap year f) in
    let last : day ≤ 31 = d.to_last in
    either (is_leap year)
    (λ t. rw t (grind (arith, nat_tests, april, june, september, november, february, last)))
    (λ f. let short : month ≡ 2 → day ≤ 28 = λ e. common e f in rw f (grind (arith, nat_tests, april, june, september, november, short, last)))

thirty : (leap : Bool) (month day : ℕ) → day ≤ month_length leap month → (month ≡ 4) ⊎ ((month ≡ 6) ⊎ ((month ≡ 9) ⊎ (month ≡ 11))) → day ≤ 30
unfolding month_length
thirty leap month day l (inl e) = rw e at l
thirty leap month day l (inr (inl e)) = rw e at l
thirty leap month day l (inr (inr (inl e))) = rw e at l
thirty leap month day l (inr (inr (inr e))) = rw e at l

thirty_one : (leap : Bool) (month day : ℕ) → day ≤ month_length leap month → day ≤ 31
unfolding month_length
thirty_one true month day l = grind (arith, nat_tests, l)
thirty_one false month day l = grind (arith, nat_tests, l)

twenty_nine : (leap : Bool) (month day : ℕ) → day ≤ month_length leap month → month ≡ 2 → day ≤ 29
unfolding month_length
twenty_nine true month day l e = rw e at l
twenty_nine false month day l e = let k = rw e at l in omega (arith, k)

twenty_eight : (leap : Bool) (month day : ℕ) → leap ≡ false → day ≤ month_length leap month → month ≡ 2 → day ≤ 28
unfolding month_length
twenty_eight true month day f l e = absurd (true≢false f)
twenty_eight false month day f l e = rw e at l

-- and each day of its month is one
day_of_month : (year month day : ℕ) → 1 ≤ month → month ≤ 12 → 1 ≤ day → day ≤ month_length (is_leap year) month → IsDay year month day
day_of_month year month day low high first last = record {
  from_january = low;
  to_december = high;
  from_first = first;
  to_last = thirty_one (is_leap year) month day last;
  short_months = thirty (is_leap year) month day last;
  february = twenty_nine (is_leap year) month day last;
  common_february = λ e n. either (is_leap year) (λ t. absurd (n (leap_is year t))) (λ f. twenty_eight (is_leap year) month day f last e);
}

full : (a b : ℕ) → a ≤ b → (a + 1 ≤ b → ⊥) → a ≡ b
full a b l n = grind (arith, l, n)

last_of_month : (year month day : ℕ) → IsDay year month day → (IsDay year month (day + 1) → ⊥) → day ≡ month_length (is_leap year) month
last_of_month year month day d n =
    full day (month_length (is_leap year) month) (within_month year month day d)
    (λ l. n (day_of_month year month (day + 1) d.from_january d.to_december (omega arith) l))

year_step : (year : ℕ) → days_before_year (year + 1) ≡ days_before_year year + sum (month_lengths (is_leap year))
year_step year = omega (arith, years_counted (year + 1), years_counted year, leap_step year, year_length (is_leap year))

december : (leap : Bool) → sum (take 11 (month_lengths leap)) + 31 ≡ sum (month_lengths leap)
december true = refl
december false = refl

month_step : (year month next : ℕ) → 1 ≤ month → month ≤ 12 → next ≡ month + 1 → days_before_month year next ≡ days_before_month year month + month_length (is_leap year) month
month_step year month next low high e =
    let k : next - 1 ≡ (month - 1) + 1 = omega (arith, e, low) in
    let m : (month - 1) + 1 ≡ month = omega (arith, low) in
    ap (λ n. sum (take n (month_lengths (is_leap year)))) k ∙ length_is (is_leap year) (month - 1) (omega (arith, low, high)) ∙ ap (λ n. days_before_month year month + month_length (is_leap year) n) m

same_month : (year other month next : ℕ) → other ≡ year → next ≡ month → days_before_month other next ≡ days_before_month year month
same_month year other month next e f = rw (e, f) refl

next_day : (t u : Moment) → IsMoment t → IsMoment u → IsNextDay t u → days_before u.year u.month u.day ≡ days_before t.year t.month t.day + 1
next_day t u a b (inl h) =
    omega (arith, ap days_before_year h.0, same_month t.year u.year t.month u.month h.0 h.1, h.2, a.on_day.from_first)
next_day t u a b (inr (inl h)) =
    let m = same_month t.year u.year u.month u.month h.1 refl ∙ month_step t.year t.month u.month a.on_day.from_january a.on_day.to_december h.2 in
    let l = last_of_month t.year t.month t.day a.on_day h.0 in
    omega (arith, ap days_before_year h.1, m, h.3, l, a.on_day.from_first)
next_day t u a b (inr (inr h)) =
    let y = ap days_before_year h.2 ∙ year_step t.year in
    let m = same_month t.year t.year 12 t.month refl h.0 in
    let n = same_month u.year u.year 1 u.month refl h.3 in
    omega (arith, y, m, n, h.1, h.4, december (is_leap t.year))

next_second : (t u : Moment) → IsMoment t → IsMoment u → IsNextSecond t u → seconds_before u ≡ seconds_before t + 1
next_second t u a b (inl h) =
    omega (arith, ap days_before_year h.0, same_month t.year u.year t.month u.month h.0 h.1, h.2, h.3)
next_second t u a b (inr h) = omega (arith, next_day t u a b h.2, h.0, h.1)

pub count_seconds : CountSeconds unix_seconds
count_seconds = record {
  epoch = let k = years_counted 1970 in omega (arith, ints, k);
  next = λ t u a b h. let k = next_second t u a b h in omega (arith, ints, k);
}

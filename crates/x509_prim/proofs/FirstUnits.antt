-- The first character of bytes that are UTF-16 units.
use Rattle.std.proofs.Common.{◌≡◌, ℕ, ◌<◌, ◌≤◌, ◌+◌, ◌*◌, true, false, ◌&&◌, List, [], ◌∷◌, map, length, get_or, drop, refl, sym, ap, ◌∙◌, arith}
use Rattle.std.specs.Option.{unwrap_or}
use Rattle.std.specs.Char.Utf16.{is_high_surrogate, is_low_surrogate, utf16_chars, utf16_lossy_chars, lone_unit_char, surrogate_pair_char}
use Rattle.std.proofs.lemmas.Bool.Decides.{nat_tests}
use Rattle.std.proofs.lemmas.Str.{utf16_chars-nil}
use Rattle.x509_prim.specs.Utf16.{units_in, lossy_chars}

-- the first unit, 0 where there is none
abbrev pub first_unit : List ℕ → ℕ
first_unit bs = get_or (units_in bs) 0 0

pub first_two : (bs : List ℕ) → 2 ≤ length bs → first_unit bs ≡ get_or bs 0 0 * 256 + get_or bs 1 0
first_two [] h = absurd (omega arith)
first_two (a ∷ []) h = absurd (omega arith)
first_two (a ∷ b ∷ bs) h = refl

pub first_none : (bs : List ℕ) → length bs < 2 → first_unit bs ≡ 0
first_none [] h = refl
first_none (a ∷ []) h = refl
first_none (a ∷ b ∷ bs) h = absurd (omega arith)

units_two : (bs : List ℕ) → 2 ≤ length bs → units_in bs ≡ first_unit bs ∷ units_in (drop 2 bs)
units_two [] h = absurd (omega arith)
units_two (a ∷ []) h = absurd (omega arith)
units_two (a ∷ b ∷ bs) h = refl

units_short : (bs : List ℕ) → length bs < 2 → units_in bs ≡ []
units_short [] h = refl
units_short (a ∷ []) h = refl
units_short (a ∷ b ∷ bs) h = absurd (omega arith)

pub lossy_end : (bs : List ℕ) → length bs < 2 → lossy_chars bs ≡ []
unfolding lossy_chars
lossy_end bs short = ap utf16_lossy_chars (units_short bs short) ∙ ap (map (λ o. unwrap_or o 0xFFFD)) utf16_chars-nil

-- a second unit of a pair is there
low_not_none : (u v : ℕ) → (is_high_surrogate u && is_low_surrogate v) ≡ true → 0 < v
low_not_none u v pair = grind (arith, nat_tests)

longer : (bs : List ℕ) → 0 < first_unit bs → 2 ≤ length bs
longer [] h = absurd (omega arith)
longer (a ∷ []) h = absurd (omega arith)
longer (a ∷ b ∷ bs) h = omega arith

-- the units behind it stay as they are
lone_of : (us : List ℕ) (u c : ℕ) → (is_high_surrogate u && is_low_surrogate (get_or us 0 0)) ≡ false → c ≡ unwrap_or (lone_unit_char u) 0xFFFD
    → utf16_lossy_chars (u ∷ us) ≡ c ∷ utf16_lossy_chars us
unfolding utf16_chars
lone_of [] u c apart is = ap (λ (x : ℕ). x ∷ []) (sym is)
lone_of (v ∷ us) u c apart is = rw (apart, is) refl

-- a pair of surrogates
pub pair_step : (bs : List ℕ) (c : ℕ) → 2 ≤ length bs → (is_high_surrogate (first_unit bs) && is_low_surrogate (first_unit (drop 2 bs))) ≡ true
    → c ≡ surrogate_pair_char (first_unit bs) (first_unit (drop 2 bs)) → lossy_chars bs ≡ c ∷ lossy_chars (drop 2 (drop 2 bs))
unfolding lossy_chars utf16_chars
pair_step bs c two pair is =
    let more : 2 ≤ length (drop 2 bs) = longer (drop 2 bs) (low_not_none (first_unit bs) _ pair) in
    let us : units_in bs ≡ first_unit bs ∷ first_unit (drop 2 bs) ∷ units_in (drop 2 (drop 2 bs)) = units_two bs two ∙ ap (λ (l : List ℕ). first_unit bs ∷ l) (units_two (drop 2 bs) more) in
    ap utf16_lossy_chars us ∙ rw (pair, is) refl

-- a unit that is in no pair
pub lone_step : (bs : List ℕ) (c : ℕ) → 2 ≤ length bs → (is_high_surrogate (first_unit bs) && is_low_surrogate (first_unit (drop 2 bs))) ≡ false
    → c ≡ unwrap_or (lone_unit_char (first_unit bs)) 0xFFFD → lossy_chars bs ≡ c ∷ lossy_chars (drop 2 bs)
unfolding lossy_chars utf16_chars
lone_step bs c two apart is = ap utf16_lossy_chars (units_two bs two) ∙ lone_of (units_in (drop 2 bs)) (first_unit bs) c apart is

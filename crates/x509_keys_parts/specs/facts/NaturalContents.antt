-- The content of a natural number, byte by byte from its end.
use Rattle.std.proofs.Common.{◌≡◌, ℕ, zero, suc, ◌/◌, ◌%◌, ◌<◌, ◌≤◌, Bool, true, false, cond, List, [], ◌∷◌, ◌++◌, length, length-append, ⊎_elim, refl, sym, ap, ◌∙◌, arith}
use Rattle.std.specs.Prelude.{nat_le}
use Rattle.std.proofs.lemmas.Bool.{cases_lt}
use Rattle.std.proofs.lemmas.Bool.Decides.{nat_tests}
use Rattle.x509_der.specs.Element.{base}
use Rattle.x509_der.specs.facts.LengthDigits.{base_zero, base_more}
use Rattle.x509_der.specs.Integer.{unsigned_content, natural_content}

low_test : (b : ℕ) → b < 128 → nat_le 128 b ≡ false
low_test b h = grind (arith, nat_tests)

high_test : (b : ℕ) → 128 ≤ b → nat_le 128 b ≡ true
high_test b h = grind (arith, nat_tests)

-- one digit
one_digit : (n : ℕ) → 0 < n → n < 256 → base n ≡ n ∷ []
one_digit n p h =
    let q : n / 256 ≡ 0 = omega arith in
    let r : n % 256 ≡ n = omega arith in
    base_more n p ∙ ap (λ x. base x ++ n % 256 ∷ []) q ∙ ap (λ s. s ++ n % 256 ∷ []) base_zero ∙ ap (λ x. x ∷ []) r

pub natural_low : (n : ℕ) → n < 128 → natural_content n ≡ n ∷ []
unfolding base
natural_low zero h = refl
natural_low (suc n) h = ap unsigned_content (one_digit (suc n) (omega arith) (omega arith)) ∙ rw (low_test (suc n) h) refl

-- a digit behind others
digit_test : (t : Bool) (b d : ℕ) (r : List ℕ) → cond t (0 ∷ b ∷ r ++ d ∷ []) (b ∷ r ++ d ∷ []) ≡ cond t (0 ∷ b ∷ r) (b ∷ r) ++ d ∷ []
digit_test true b d r = refl
digit_test false b d r = refl

digit_behind : (s : List ℕ) (d : ℕ) → 0 < length s → unsigned_content (s ++ d ∷ []) ≡ unsigned_content s ++ d ∷ []
digit_behind [] d h = absurd (omega arith)
digit_behind (b ∷ r) d h = digit_test (nat_le 128 b) b d r

some_digits : (n : ℕ) → 0 < n → 0 < length (base n)
some_digits n h = omega (arith, ap length (base_more n h), length-append (base (n / 256)) (n % 256 ∷ []))

one_more : (n : ℕ) → 128 ≤ n → n < 256 → natural_content n ≡ natural_content (n / 256) ++ n % 256 ∷ []
unfolding base
one_more n l h =
    let q : n / 256 ≡ 0 = omega arith in
    let r : n ≡ n % 256 = omega arith in
    ap unsigned_content (one_digit n (omega arith) h) ∙ rw (high_test n l) (ap (λ x. 0 ∷ x ∷ []) r) ∙ ap (λ x. natural_content x ++ n % 256 ∷ []) (sym q)

pub natural_more : (n : ℕ) → 128 ≤ n → natural_content n ≡ natural_content (n / 256) ++ n % 256 ∷ []
unfolding base
natural_more n l =
    ⊎_elim
    (λ h. one_more n l h)
    (λ h. ap unsigned_content (base_more n (omega arith)) ∙ digit_behind (base (n / 256)) (n % 256) (some_digits (n / 256) (omega arith)))
    (cases_lt n 256)

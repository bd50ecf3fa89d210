-- Facts about INTEGERs.
use Rattle.std.proofs.Common.{◌≡◌, ℕ, suc, ◌+◌, ◌*◌, ◌/◌, ◌%◌, ◌^◌, ◌<◌, ◌≤◌, true, false, List, [], ◌∷◌, length, drop, get_or, ⊎_elim, refl, sym, ap, ◌∙◌, arith, drop-cons, add-one}
use Rattle.std.specs.Prelude.{pos, ◌-ℤ◌, ◌≤ℤ◌, IsTrue}
use Rattle.std.proofs.Math.Nat.{pow-suc}
use Rattle.std.proofs.lemmas.List.{drop_all}
use Rattle.std.proofs.lemmas.Int.{ints}
use Rattle.std.proofs.lemmas.Nat.{mul-le}
use Rattle.std.proofs.lemmas.Bool.{cases_lt}
use Rattle.std.proofs.lemmas.Bool.Decides.{nat_tests}
use Rattle.x509_der.specs.Integer.{AreBytes}
use Rattle.x509_der_parts.specs.Shape.{Lawful}
use Rattle.x509_der_parts.specs.laws.PrimitiveContent.{itself_lawful}
use Rattle.x509_der.specs.Integer.{unsigned_value, signed_value, sign_bit, pads, is_minimal, IsMinimal, integers}

pub integer_lawful : Lawful integers
integer_lawful = itself_lawful IsMinimal

-- a byte in front that says nothing changes no number
zeros_front : (b p u : ℕ) → b < 128 → pos (0 % 128 * (p * 256) + (b * p + u)) -ℤ pos (0 / 128 * (128 * (p * 256))) ≡ pos (b % 128 * p + u) -ℤ pos (b / 128 * (128 * p))
zeros_front b p u h =
    let m : b % 128 ≡ b = omega arith in
    let d : b / 128 ≡ 0 = omega arith in
    rw (m, d) (omega (arith, ints))

ones_front : (b p u : ℕ) → 128 ≤ b → b < 256 → pos (255 % 128 * (p * 256) + (b * p + u)) -ℤ pos (255 / 128 * (128 * (p * 256))) ≡ pos (b % 128 * p + u) -ℤ pos (b / 128 * (128 * p))
ones_front b p u l h =
    let d : b / 128 ≡ 1 = omega arith in
    let e : b ≡ b % 128 + 128 = omega arith in
    let m : b * p ≡ (b % 128 + 128) * p = ap (λ x. x * p) e in
    rw (d, m) (omega (arith, ints))

pads_low : (a b : ℕ) → b < 128 → pads a b ≡ true → a ≡ 0
pads_low a b h e = grind (arith, nat_tests)

pads_high : (a b : ℕ) → 128 ≤ b → pads a b ≡ true → a ≡ 255
pads_high a b h e = grind (arith, nat_tests)

pub signed_value-pads : (a b : ℕ) (r : List ℕ) → b < 256 → pads a b ≡ true → signed_value (a ∷ b ∷ r) ≡ signed_value (b ∷ r)
signed_value-pads a b r h e =
    let p : 256 ^ suc (length r) ≡ 256 ^ length r * 256 = pow-suc 256 (length r) in
    rw p (⊎_elim
    (λ l. rw (pads_low a b l e) (zeros_front b (256 ^ length r) (unsigned_value r) l))
    (λ l. rw (pads_high a b l e) (ones_front b (256 ^ length r) (unsigned_value r) l h))
    (cases_lt b 128))

-- the numbers below the bytes' power
pub bytes_rest : (b : ℕ) (r : List ℕ) → AreBytes (b ∷ r) → AreBytes r
bytes_rest b r h = λ k. h (suc k)

step_below : (b p u : ℕ) → b < 256 → u < p → b * p + u < p * 256
step_below b p u h k = let m = mul-le b p 255 p (omega arith) (omega arith) in omega (arith, m)

pub unsigned_below : (s : List ℕ) → AreBytes s → unsigned_value s < 256 ^ length s
unsigned_below [] h = omega arith
unsigned_below (b ∷ r) h = rw (pow-suc 256 (length r)) (step_below b (256 ^ length r) (unsigned_value r) (h 0) (unsigned_below r (bytes_rest b r h)))

-- of a number that isn't negative
low_first : (b p u : ℕ) → b < 128 → pos (b * p + u) ≡ pos (b % 128 * p + u) -ℤ pos (b / 128 * (128 * p))
low_first b p u h =
    let m : b % 128 ≡ b = omega arith in
    let d : b / 128 ≡ 0 = omega arith in
    rw (m, d) (omega (arith, ints))

high_first : (b p u : ℕ) → 128 ≤ b → b < 256 → u < p → pos 0 ≤ℤ (pos (b % 128 * p + u) -ℤ pos (b / 128 * (128 * p))) → ⊥
high_first b p u l h k z =
    let d : b / 128 ≡ 1 = omega arith in
    let m = mul-le (b % 128) p 127 p (omega arith) (omega arith) in
    let z1 : pos 0 ≤ℤ (pos (b % 128 * p + u) -ℤ pos (1 * (128 * p))) = rw d at z in
    omega (arith, ints, m, z1)

-- the first bit is the sign
pub signed_value-low : (s : List ℕ) → sign_bit s ≡ false → signed_value s ≡ pos (unsigned_value s)
signed_value-low [] e = refl
signed_value-low (b ∷ r) e = sym (low_first b (256 ^ length r) (unsigned_value r) (grind (arith, nat_tests)))

pub signed_value-positive : (s : List ℕ) → AreBytes s → pos 0 ≤ℤ signed_value s → pos (unsigned_value s) ≡ signed_value s
signed_value-positive [] h z = refl
signed_value-positive (b ∷ r) h z =
    ⊎_elim
    (λ l. low_first b (256 ^ length r) (unsigned_value r) l)
    (λ l. absurd (high_first b (256 ^ length r) (unsigned_value r) l (h 0) (unsigned_below r (bytes_rest b r h)) z))
    (cases_lt b 128)

-- a zero byte in front makes it the number without a sign
pub signed_value-zero : (s : List ℕ) → signed_value (0 ∷ s) ≡ pos (unsigned_value s)
signed_value-zero s = omega (arith, ints)

-- looking for the first byte that says something
pub padding_step : (s : List ℕ) (k : ℕ) → AreBytes s → k + 1 < length s → pads (get_or s k 0) (get_or s (k + 1) 0) ≡ true → signed_value (drop (k + 1) s) ≡ signed_value (drop k s)
padding_step s k h l p =
    let q : k + 1 ≡ suc k = add-one k in
    let a : drop k s ≡ get_or s k 0 ∷ drop (k + 1) s = drop-cons s k 0 (omega arith) ∙ ap (λ n. get_or s k 0 ∷ drop n s) (sym q) in
    let b : drop (k + 1) s ≡ get_or s (k + 1) 0 ∷ drop (suc (k + 1)) s = drop-cons s (k + 1) 0 l in
    rw (a, b) (sym (signed_value-pads (get_or s k 0) (get_or s (k + 1) 0) (drop (suc (k + 1)) s) (h (k + 1)) p))

pub padding_end : (s : List ℕ) (k : ℕ) → k < length s → length s ≤ k + 1 → IsTrue (is_minimal (drop k s))
padding_end s k l h = rw (drop-cons s k 0 l, drop_all (suc k) s (omega arith)) refl

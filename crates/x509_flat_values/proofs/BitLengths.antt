-- The bits of numbers, from the digits in base 256.
use Rattle.std.proofs.Common.{◌≡◌, ◌≢◌, ℕ, zero, suc, ◌+◌, ◌*◌, ◌^◌, ◌<◌, ◌≤◌, List, [], ◌∷◌, length, get_or, take, drop, ◌-◌, refl, sym, ap, ◌∙◌, arith, subst}
use Rattle.std.proofs.lemmas.List.{take_all}
use Rattle.std.specs.Prelude.{min}
use Rattle.std.proofs.Math.Nat.{pow-suc}
use Rattle.std.proofs.lemmas.Nat.{mul-le, pow-add}
use Rattle.x509_der.specs.Element.{AreBytes}
use Rattle.x509_der.specs.Integer.{unsigned_value}
use Rattle.x509_der.specs.facts.Integer.{bytes_rest, unsigned_below}
use Rattle.x509_flat_values.specs.Numbers.{IsBitLength}

-- a digit weighs eight bits
weight : (n : ℕ) → 256 ^ n ≡ 2 ^ (n * 8)
weight zero = refl
weight (suc n) =
    let e : suc n * 8 ≡ n * 8 + 8 = omega arith in
    rw (pow-suc 256 n, weight n, e, pow-add 2 (n * 8) 8) refl

module _ (b u w p : ℕ) where
  below : b < p → u < w → b * w + u < p * w
  below h k = let m = mul-le (b + 1) w p w (omega (arith, h)) (omega arith) in omega (arith, m, k)

  highest : p ≤ 2 * b → p * w ≤ 2 * (b * w + u)
  highest h = let m = mul-le p w (2 * b) w h (omega arith) in omega (arith, m)

-- a sum that is 0
none_above : (b u w : ℕ) → u < w → b * w + u ≡ 0 → b ≡ 0
none_above zero u w l z = refl
none_above (suc b) u w l z = absurd (omega (arith, l, z))

-- a number whose highest digit isn't 0
pub digits_length : (b : ℕ) (r : List ℕ) (j n : ℕ) → AreBytes (b ∷ r) → IsBitLength b j → b ≢ 0 → n ≡ length r * 8 + j → IsBitLength (unsigned_value (b ∷ r)) n
digits_length b r j n bytes h some is =
    let w = 256 ^ length r in
    let e : 2 ^ n ≡ 2 ^ j * w = ap (λ k. 2 ^ k) is ∙ pow-add 2 (length r * 8) j ∙ rw (weight (length r)) (omega arith) in
    let l : unsigned_value r < w = unsigned_below r (bytes_rest b r bytes) in
    let a = below b (unsigned_value r) w (2 ^ j) h.below l in
    let c = highest b (unsigned_value r) w (2 ^ j) (h.highest some) in
    record {
      none = λ z. absurd (some (none_above b (unsigned_value r) w l z));
      below = omega (arith, a, e);
      highest = λ _. omega (arith, c, e);
    }

pub no_bits : IsBitLength 0 0
no_bits = record { none = λ _. refl; below = omega arith; highest = λ n. absurd (n refl) }

-- ---- the digits that are left
left_all : (x : ℕ) (r : List ℕ) → take (length (x ∷ r) - 1) (drop 1 (x ∷ r)) ≡ r
left_all x r = take_all (length (x ∷ r) - 1) r (omega arith)

pub bytes_more : (s : List ℕ) → AreBytes s → AreBytes (take (length s - 1) (drop 1 s))
bytes_more [] bytes = λ k. omega arith
bytes_more (x ∷ r) bytes = subst AreBytes (sym (left_all x r)) (bytes_rest x r bytes)

pub length_more : (s : List ℕ) → 1 ≤ length s → length (take (length s - 1) (drop 1 s)) + 1 ≡ length s
length_more [] some = absurd (omega (arith, some))
length_more (x ∷ r) some = omega (arith, ap length (left_all x r))

-- behind a digit that is 0
pub value_more : (s : List ℕ) (b d : ℕ) → 1 ≤ length s → b ≡ get_or s 0 d → b ≡ 0 → unsigned_value (take (length s - 1) (drop 1 s)) ≡ unsigned_value s
value_more [] b d some is z = absurd (omega (arith, some))
value_more (x ∷ r) b d some is z =
    let P : ℕ → Type 0 = λ n. unsigned_value r ≡ n * 256 ^ length r + unsigned_value r in
    ap unsigned_value (left_all x r) ∙ subst P (sym z ∙ is) (omega arith)

pub bits_told : (digits s : List ℕ) (b j m n d : ℕ) → AreBytes s → unsigned_value s ≡ unsigned_value digits → length s ≤ length digits → 1 ≤ length s → b ≡ get_or s 0 d → b ≢ 0 → IsBitLength b j → j ≤ 8 → m ≡ min (length (take (length s - 1) (drop 1 s)) * 8) (2 ^ 64 - 1) → n ≡ min (m + j) (2 ^ 64 - 1) → 8 * length digits < 2 ^ 64 → IsBitLength (unsigned_value digits) n
bits_told digits [] b j m n d bytes same short some is other h few mul add fits = absurd (omega (arith, some))
bits_told digits (x ∷ r) b j m n d bytes same short some is other h few mul add fits =
    let P : ℕ → Type 0 = λ v. IsBitLength v n in
    let B : ℕ → Type 0 = λ v. IsBitLength v j in
    let l = ap length (left_all x r) in
    subst P same (digits_length x r j n bytes (subst B is h) (λ z. other (is ∙ z)) (omega (arith, mul, add, l, few, fits, short)))

-- Bounds, and the parity of a number.
use Rattle.std.proofs.Common.{◌≡◌, ℕ, zero, suc, ◌+◌, ◌*◌, ◌%◌, ◌^◌, ◌<◌, Bool, true, List, [], ◌∷◌, length, get_or, refl, sym, ◌∙◌, arith}
use Rattle.std.specs.Bool.{Decides}
use Rattle.std.specs.Prelude.{ℤ, pos, negsuc, ◌<ℤ◌, nat_eq, nat_lt}
use Rattle.std.proofs.Math.Nat.{pow-suc}
use Rattle.std.proofs.lemmas.Int.{ints}
use Rattle.std.proofs.lemmas.Bool.Decides.{Decides-eqb, nat_tests}
use Rattle.x509_der.specs.Integer.{unsigned_value}

told_lower : (n b : ℕ) → nat_lt n b ≡ true → n < b
told_lower n b t = grind (arith, nat_tests)

lower_told : (n b : ℕ) → n < b → nat_lt n b ≡ true
lower_told n b h = grind (arith, nat_tests)

natural_below : (z : ℤ) (n b : ℕ) → z ≡ pos n → n < b → z <ℤ pos b
natural_below z n b e h = omega (arith, ints, e, h)

below_natural : (z : ℤ) (n b : ℕ) → z ≡ pos n → z <ℤ pos b → n < b
below_natural z n b e h = omega (arith, ints, e, h)

-- of a number that is natural
pub below_some : (z : ℤ) (n b : ℕ) → z ≡ pos n → Decides (nat_lt n b) (z <ℤ pos b)
below_some z n b e = (λ t. natural_below z n b e (told_lower n b t), λ h. lower_told n b (below_natural z n b e h))

-- a number that is no natural one below m, and below a bound up to m, is negative
negative : (z : ℤ) (b m : ℕ) → b < m → ((n : ℕ) → n < m → z ≡ pos n → ⊥) → z <ℤ pos b → z <ℤ pos 0
negative (pos n) b m l none h = absurd (none n (omega (arith, ints, h, l)) refl)
negative (negsuc n) b m l none h = omega (arith, ints)

raised : (z : ℤ) (b : ℕ) → z <ℤ pos 0 → z <ℤ pos b
raised z b h = omega (arith, ints, h)

pub below_none : (z : ℤ) (r : Bool) (b m : ℕ) → b < m → Decides r (z <ℤ pos 0) → ((n : ℕ) → n < m → z ≡ pos n → ⊥) → Decides r (z <ℤ pos b)
below_none z r b m l d none = (λ t. raised z b (d.0 t), λ h. d.1 (negative z b m l none h))

-- what stands in front of the last octet weighs a multiple of 256
behind : (b p q t : ℕ) → q % 2 ≡ t % 2 → (b * (p * 256) + q) % 2 ≡ t % 2
behind b p q t e = omega (arith, e)

-- a number is even where its last octet is
parity : (s : List ℕ) (i : ℕ) → suc i ≡ length s → unsigned_value s % 2 ≡ get_or s i 0 % 2
parity [] i e = absurd (omega (arith, e))
parity (b ∷ []) zero e = omega arith
parity (b ∷ []) (suc i) e = absurd (omega (arith, e))
parity (b ∷ c ∷ r) zero e = absurd (omega (arith, e))
parity (b ∷ c ∷ r) (suc i) e =
    rw (pow-suc 256 (length r)) (behind b (256 ^ length r) (unsigned_value (c ∷ r)) (get_or (c ∷ r) i 0) (parity (c ∷ r) i (omega (arith, e))))

same_parity : (a b : ℕ) → a ≡ b → Decides (nat_eq b 0) (a ≡ 0)
same_parity a b e = (λ t. e ∙ (Decides-eqb b 0).0 t, λ h. (Decides-eqb b 0).1 (sym e ∙ h))

pub even_last : (s : List ℕ) (i : ℕ) → suc i ≡ length s → Decides (nat_eq (get_or s i 0 % 2) 0) (unsigned_value s % 2 ≡ 0)
even_last s i e = same_parity (unsigned_value s % 2) (get_or s i 0 % 2) (parity s i e)

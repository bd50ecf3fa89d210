-- Contents of at most nine bytes: no number in them passes 63 bits.
use Rattle.std.specs.Prelude.{◌≡◌, ℕ, ◌+◌, ◌*◌, ◌-◌, ◌≤◌, ◌<◌, ◌^◌, List, [], length, zero, suc, Bool, true, false, ◌&&◌}
use Rattle.std.proofs.Common.{arith, get_or, eqb, refl}
use Rattle.std.proofs.Math.Nat.{pow-suc}
use Rattle.std.proofs.Math.Numerals.{suc-eq-add-one}
use Rattle.x509_der.specs.ObjectIdentifier.{IsOid, arcs_spelled}
use Rattle.x509_der.specs.facts.ObjectIdentifier.{numbering_zero, numbering_cut, no_oid}
use Rattle.x509_der.specs.facts.OidContent.{Checking, checking_start, checking_low, checking_high, checked}

-- what was read of a number that is under way, which is below a power of 128, since each digit has seven bits
pub record Short (bytes : List ℕ) (i : ℕ) (fresh : Bool) : Type 0 where
  pub sofar : ℕ
  pub below : sofar < 128 ^ i
  pub checking : Checking bytes i sofar fresh

pub short_start : (bytes : List ℕ) → Short bytes 0 true
short_start bytes = record { sofar = 0; below = omega arith; checking = checking_start bytes }

one_more : (i : ℕ) → 128 ^ (i + 1) ≡ 128 ^ i * 128
one_more i = rw (← suc-eq-add-one i) (pow-suc 128 i)

-- eight digits are 56 bits
few_digits : (i : ℕ) → i < 9 → 128 ^ i ≤ 72057594037927936
few_digits zero h = omega arith
few_digits (suc zero) h = omega arith
few_digits (suc (suc zero)) h = omega arith
few_digits (suc (suc (suc zero))) h = omega arith
few_digits (suc (suc (suc (suc zero)))) h = omega arith
few_digits (suc (suc (suc (suc (suc zero))))) h = omega arith
few_digits (suc (suc (suc (suc (suc (suc zero)))))) h = omega arith
few_digits (suc (suc (suc (suc (suc (suc (suc zero))))))) h = omega arith
few_digits (suc (suc (suc (suc (suc (suc (suc (suc zero)))))))) h = omega arith
few_digits (suc (suc (suc (suc (suc (suc (suc (suc (suc k))))))))) h = absurd (omega (arith, h))

module _ (bytes : List ℕ) (i : ℕ) (fresh : Bool) (s : Short bytes i fresh) (b d : ℕ) (h : i < length bytes) (e : b ≡ get_or bytes i d) where
  pub short_low : length bytes ≤ 9 → b < 128 → Short bytes (i + 1) true
  short_low few low =
      let k = few_digits i (omega (arith, few, h)) in
      record { sofar = 0; below = rw (one_more i) (omega (arith, s.below)); checking = checking_low bytes i s.sofar fresh b d s.checking h e low (omega (arith, s.below, k, low)) }

  pub short_high : 128 ≤ b → b < 256 → (fresh && eqb b 128) ≡ false → Short bytes (i + 1) false
  short_high high byte n =
      record { sofar = s.sofar * 128 + (b - 128); below = rw (one_more i) (omega (arith, s.below, high, byte)); checking = checking_high bytes i s.sofar fresh b d s.checking h e high byte n }

  pub short_padded : 128 ≤ b → (fresh && eqb b 128) ≡ true → (v : List ℕ) → IsOid v bytes → ⊥
  short_padded high n = no_oid bytes (numbering_zero bytes s.checking.numbers i s.sofar fresh s.checking.state b d h e high n)

pub short_done : (bytes : List ℕ) (i : ℕ) → Short bytes i true → length bytes ≤ i → (bytes ≡ [] → ⊥) → IsOid (arcs_spelled bytes) bytes
short_done bytes i s h some = checked bytes i s.sofar true s.checking h some refl

pub short_cut : (bytes : List ℕ) (i : ℕ) → Short bytes i false → length bytes ≤ i → (v : List ℕ) → IsOid v bytes → ⊥
short_cut bytes i s h = no_oid bytes (numbering_cut bytes s.checking.numbers i s.sofar false s.checking.state h refl)

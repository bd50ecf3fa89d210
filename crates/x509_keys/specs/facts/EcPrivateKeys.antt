-- What the fields of an elliptic curve private key mean keeps the laws.
use Rattle.std.proofs.Common.{◌≡◌, refl, ap, subst, ℕ, ◌≤◌, ◌||◌, eqb, Bool, true, false, List, [], ◌∷◌, length, Some, arith}
use Rattle.std.proofs.lemmas.Bool.Decides.{nat_tests}
use Rattle.std.specs.Prelude.{nat_le, nat_lt, ◌==◌, if◌then◌else◌}
use Rattle.x509_der.specs.Integer.{magnitude, unsigned_value}
use Rattle.x509_der.specs.declared.integer.Magnitude.TheVariants as magnitudes
use Rattle.x509_der.specs.Types.{Deviation}
use Rattle.x509_der.specs.laws.Meaning.{IsMeaning}
use Rattle.x509_keys.specs.declared.ec_private_key.ECPrivateKey.{ECPrivateKey}
use Rattle.x509_keys.specs.EcPrivateKeys.{EcFields, ec_key_parts, ec_key_of, ec_key_base, ec_key_inner, is_one, is_byte_one, ec_key_means, ec_key_meaning}
use Rattle.x509_keys.specs.facts.ReadIf.{was_read}

-- the tag of a point is none that a curve begins with
pub point_apart : (c : ℕ) → eqb c 161 ≡ true → (false || eqb c 160) ≡ false
point_apart c h = grind (arith, nat_tests)

-- the fields are those of what they mean, whose version is 1
pub means_ec_key : {A : Type 0} (f : EcFields A) (v : ECPrivateKey A) (ks : List Deviation) → ec_key_means f ≡ Some (v, ks) → (is_one f.0 ≡ true) × ((f ≡ ec_key_parts v) × ([] ≡ ks))
means_ec_key f v ks e = let r = was_read (is_one f.0) (ec_key_of f) v [] ks e in (r.0, (ap ec_key_parts r.1.0, r.1.1))

pub ec_key_is : {A : Type 0} → IsMeaning (ec_key_meaning {A = A}) ec_key_base
ec_key_is {A} = record {
  written = λ v d r. (rw r.0 refl, d, r.1);
  stays = λ v d. d;
  clean = λ f v e d r. (means_ec_key f v [] e).1.0;
  kept = λ f v ks e d. subst (λ x. ec_key_inner.valid x) (means_ec_key f v ks e).1.0 d;
  read = λ f v ks e r. let m = means_ec_key f v ks e in (subst (λ (x : EcFields A). is_one x.0 ≡ true) m.1.0 m.0, subst (λ x. ec_key_inner.readable x) m.1.0 r);
}

-- and there is no deviation over the whole
pub ec_key_one : {A : Type 0} (f : EcFields A) (v : ECPrivateKey A) (ks : List Deviation) → ec_key_means f ≡ Some (v, ks) → length ks ≤ 1
ec_key_one f v ks e = omega (arith, ap length (means_ec_key f v ks e).1.1)

one_byte : (s : Bool) (a : ℕ) → nat_le 128 a ≡ s → (a == 1) ≡ is_byte_one (if s then magnitudes.Negative else magnitudes.Byte a)
one_byte true a e = grind (arith, nat_tests, e)
one_byte false a e = refl

more_bytes : (s t : Bool) → false ≡ is_byte_one (if s then magnitudes.Negative else if t then magnitudes.Small else magnitudes.Large)
more_bytes true t = refl
more_bytes false true = refl
more_bytes false false = refl

-- the version is 1 as its magnitude says
pub one_by_magnitude : (c : List ℕ) → is_one c ≡ is_byte_one (magnitude c)
one_by_magnitude [] = refl
one_by_magnitude (a ∷ []) = one_byte (nat_le 128 a) a refl
one_by_magnitude (a ∷ b ∷ r) = more_bytes (nat_le 128 a) (nat_lt (unsigned_value (a ∷ b ∷ r)) 18446744073709551616)

-- The parameters of AES algorithm identifiers are told by their fields.
use Rattle.std.proofs.Common.{◌≡◌, refl, ℕ, ◌||◌, eqb, true, false, arith}
use Rattle.std.proofs.lemmas.Bool.Decides.{nat_tests}
use Rattle.x509_der.specs.Types.choice.{First, Second}
use Rattle.x509_der.specs.facts.Lists.{same_one}
use Rattle.x509_keys_parts.specs.declared.aes.AesParameters.{AesParameters}
use Rattle.x509_keys_parts.specs.declared.aes.AesParameters.TheVariants.{Null, InitializationVector, AuthenticatedEncryptionParameters}
use Rattle.x509_keys_parts.specs.AesParameters.{Fields, aes_parts}

abbrev pub aes_of : {A : Type 0} → Fields → AesParameters A
aes_of (First v) = Null
aes_of (Second (First v)) = InitializationVector v
aes_of (Second (Second v)) = AuthenticatedEncryptionParameters v

aes_made : {A : Type 0} (v : AesParameters A) → aes_of (aes_parts v) ≡ v
aes_made Null = refl
aes_made (InitializationVector v) = refl
aes_made (AuthenticatedEncryptionParameters v) = refl

pub aes_whole : (A : Type 0) (f : Fields) → aes_parts (aes_of {A = A} f) ≡ f
aes_whole A (First v) = refl
aes_whole A (Second (First v)) = refl
aes_whole A (Second (Second v)) = refl

pub aes_same : {A : Type 0} (v w : AesParameters A) → aes_parts v ≡ aes_parts w → v ≡ w
aes_same = same_one aes_parts aes_of aes_made

-- the alternatives are told apart by their tags
pub octets_apart : (c : ℕ) → eqb c 4 ≡ true → eqb c 48 ≡ false
octets_apart c h = grind (arith, nat_tests)

pub null_apart : (c : ℕ) → eqb c 5 ≡ true → (eqb c 4 || eqb c 48) ≡ false
null_apart c h = grind (arith, nat_tests)

-- The parameters of each kind of algorithm keep the laws.
use Rattle.std.proofs.Common.{◌≡◌, refl, ℕ, Bool, true, false, ◌||◌, eqb, List, Option, Some, None}
use Rattle.x509_keys_parts.specs.declared.aes.AesParameters.{AesParameters}
use Rattle.x509_keys_parts.specs.declared.algorithm_parameters.AlgorithmIdentifierParameters.{AlgorithmIdentifierParameters}
use Rattle.x509_keys_parts.specs.declared.algorithm_parameters.AlgorithmKind.{AlgorithmKind}
use Rattle.std.specs.Option.{is_none}
use Rattle.x509_der.specs.Optional.{brief_if}
use Rattle.x509_keys_parts.specs.AlgorithmIdentifier.{are_absent}
use Rattle.x509_der.specs.Shape.{Lawful}
use Rattle.x509_der.specs.Optional.{optional}
use Rattle.x509_der.specs.DefinedBy.{IsFamily}
use Rattle.x509_der.specs.Variant.{bare}
use Rattle.x509_der.specs.laws.Variant.{variant_lawful, no_variant_lawful, bare_lawful, IsVariant}
use Rattle.x509_keys_parts.specs.AesParameters.{aes_parameters}
use Rattle.x509_keys_parts.specs.EcParameters.{ec_parameters}
use Rattle.x509_keys_parts.specs.RsassaPss.{rsassa_pss}
use Rattle.x509_keys_parts.specs.AlgorithmKinds.{kind_of}
use Rattle.x509_keys_parts.specs.AlgorithmParameters.{parameters_bytes, AreParameters, if_null, if_aes, by_kind, parameters_avoid}
use Rattle.x509_keys_parts.specs.HashAlgorithms.{null}
use Rattle.x509_keys_parts.specs.declared.algorithm_parameters.AlgorithmIdentifierParameters.TheVariants as parameters
use Rattle.x509_keys_parts.specs.declared.algorithm_parameters.AlgorithmKind.TheVariants as kinds

null_strict : (A : Type 0) (u : Option (Unit {0})) → parameters_bytes (if_null {A = A} u) ≡ (optional null).strict u
null_strict A None = refl
null_strict A (Some u) = refl

null_valid : (A : Type 0) (u : Option (Unit {0})) → AreParameters (if_null {A = A} u)
null_valid A None = tt
null_valid A (Some u) = tt

null_payload : (u : Option (Unit {0})) → (optional null).valid u
null_payload None = tt
null_payload (Some u) = tt

aes_strict : {A : Type 0} (u : Option (AesParameters A)) → parameters_bytes (if_aes u) ≡ (optional aes_parameters).strict u
aes_strict None = refl
aes_strict (Some p) = refl

aes_valid : {A : Type 0} (u : Option (AesParameters A)) → (optional aes_parameters).valid u → AreParameters (if_aes u)
aes_valid None h = tt
aes_valid (Some p) h = h

aes_payload : {A : Type 0} (u : Option (AesParameters A)) → AreParameters (if_aes u) → (optional aes_parameters).valid u
aes_payload None h = tt
aes_payload (Some p) h = h

rsa_kind : {A : Type 0} → IsVariant {V = AlgorithmIdentifierParameters A} if_null parameters_bytes AreParameters (optional null)
rsa_kind {A} = record { strict = null_strict A; valid = λ u h. null_valid A u; payload = λ u h. null_payload u }

pss_kind : {A : Type 0} → IsVariant {V = AlgorithmIdentifierParameters A} parameters.RsassaPss parameters_bytes AreParameters rsassa_pss
pss_kind = record { strict = λ u. refl; valid = λ u h. h; payload = λ u h. h }

ec_kind : {A : Type 0} → IsVariant {V = AlgorithmIdentifierParameters A} parameters.Ec parameters_bytes AreParameters ec_parameters
ec_kind = record { strict = λ u. refl; valid = λ u h. h; payload = λ u h. h }

bare_kind : {A : Type 0} → IsVariant {V = AlgorithmIdentifierParameters A} (λ u. parameters.None) parameters_bytes AreParameters bare
bare_kind = record { strict = λ u. refl; valid = λ u h. tt; payload = λ u h. tt }

aes_kind : {A : Type 0} → IsVariant {V = AlgorithmIdentifierParameters A} if_aes parameters_bytes AreParameters (optional aes_parameters)
aes_kind = record { strict = aes_strict; valid = aes_valid; payload = aes_payload }

hash_kind : {A : Type 0} → IsVariant {V = AlgorithmIdentifierParameters A} (λ u. parameters.Null) parameters_bytes AreParameters null
hash_kind = record { strict = λ u. refl; valid = λ u h. tt; payload = λ u h. tt }

-- the laws of the parts that kinds are made of
pub record AreLawful (A : Type 0) : Type 0 where
  pub nulls : Lawful null
  pub null_there : Lawful (optional null)
  pub pss : Lawful (rsassa_pss {A = A})
  pub curves : Lawful (ec_parameters {A = A})
  pub aes_there : Lawful (optional (aes_parameters {A = A}))

by_kind_lawful : {A : Type 0} → AreLawful A → (k : AlgorithmKind) → Lawful (by_kind {A = A} k)
by_kind_lawful l kinds.Rsa = variant_lawful if_null parameters_bytes AreParameters (optional null) l.null_there rsa_kind
by_kind_lawful l kinds.RsassaPss = variant_lawful parameters.RsassaPss parameters_bytes AreParameters rsassa_pss l.pss pss_kind
by_kind_lawful l kinds.EcPublicKey = variant_lawful parameters.Ec parameters_bytes AreParameters ec_parameters l.curves ec_kind
by_kind_lawful l kinds.Bare = variant_lawful (λ u. parameters.None) parameters_bytes AreParameters bare bare_lawful bare_kind
by_kind_lawful l kinds.Aes = variant_lawful if_aes parameters_bytes AreParameters (optional aes_parameters) l.aes_there aes_kind
by_kind_lawful l kinds.Hash = variant_lawful (λ u. parameters.Null) parameters_bytes AreParameters null l.nulls hash_kind
by_kind_lawful l kinds.Unknown = no_variant_lawful parameters_bytes AreParameters

first_false : (a b : Bool) → (a || b) ≡ false → a ≡ false
first_false true b h = h
first_false false b h = refl

by_kind_free : (A : Type 0) (k : AlgorithmKind) (c : ℕ) → parameters_avoid c ≡ false → (by_kind {A = A} k).avoids c ≡ false
by_kind_free A kinds.Rsa c h = first_false (eqb c 5) (eqb c 4 || eqb c 48) h
by_kind_free A kinds.RsassaPss c h = refl
by_kind_free A kinds.EcPublicKey c h = refl
by_kind_free A kinds.Bare c h = refl
by_kind_free A kinds.Aes c h = h
by_kind_free A kinds.Hash c h = refl
by_kind_free A kinds.Unknown c h = refl

pub parameters_family : {A : Type 0} → AreLawful A → IsFamily (λ (arcs : List ℕ). by_kind {A = A} (kind_of arcs)) (λ b. true) parameters_avoid
parameters_family {A} l = record { lawful = λ k. by_kind_lawful l (kind_of k); begin = λ k c h. refl; end = λ k c h. by_kind_free A (kind_of k) c h }

pub parameters_agree : {A : Type 0} (k : AlgorithmKind) (v : AlgorithmIdentifierParameters A) → (by_kind k).strict v ≡ parameters_bytes v
parameters_agree kinds.Rsa v = refl
parameters_agree kinds.RsassaPss v = refl
parameters_agree kinds.EcPublicKey v = refl
parameters_agree kinds.Bare v = refl
parameters_agree kinds.Aes v = refl
parameters_agree kinds.Hash v = refl
parameters_agree kinds.Unknown v = refl

pub parameters_valid : {A : Type 0} (k : AlgorithmKind) (v : AlgorithmIdentifierParameters A) → AreParameters v → (by_kind k).valid v
parameters_valid kinds.Rsa v h = h
parameters_valid kinds.RsassaPss v h = h
parameters_valid kinds.EcPublicKey v h = h
parameters_valid kinds.Bare v h = h
parameters_valid kinds.Aes v h = h
parameters_valid kinds.Hash v h = h
parameters_valid kinds.Unknown v h = h

-- what is said of parameters by whether they are there
pub null_absent : (A : Type 0) (u b : Option (Unit {0})) → brief_if (λ v. v) u ≡ b → are_absent (if_null {A = A} u) ≡ is_none b
null_absent A None b e = rw (← e) refl
null_absent A (Some v) b e = rw (← e) refl

pub aes_absent : {A : Type 0} (u : Option (AesParameters A)) (b : Option (Unit {0})) → brief_if (λ v. tt) u ≡ b → are_absent (if_aes u) ≡ is_none b
aes_absent None b e = rw (← e) refl
aes_absent (Some v) b e = rw (← e) refl

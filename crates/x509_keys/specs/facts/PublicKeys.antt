-- The public keys of each kind of algorithm keep the laws.
use Rattle.std.proofs.Common.{◌≡◌, refl, ℕ, true, false, eqb}
use Rattle.x509_keys_parts.specs.declared.key_kind.KeyKind.{KeyKind}
use Rattle.x509_keys.specs.declared.public_key.PublicKey.{PublicKey}
use Rattle.x509_keys_parts.specs.AlgorithmIdentifier.{Algorithm}
use Rattle.x509_der.specs.Shape.{Lawful}
use Rattle.x509_der.specs.DefinedBy.{IsFamily}
use Rattle.x509_der.specs.laws.Variant.{variant_lawful, no_variant_lawful, IsVariant}
use Rattle.x509_keys_parts.specs.KeyKinds.{key_kind}
use Rattle.x509_keys.specs.PublicKeys.{rsa_bits, key_bits, public_key_bytes, IsPublicKey, public_by_kind}
use Rattle.x509_keys_parts.specs.declared.key_kind.KeyKind.TheVariants as kinds
use Rattle.x509_keys.specs.declared.public_key.PublicKey.TheVariants as key

rsa_keys : {A : Type 0} → IsVariant {V = PublicKey A} key.Rsa public_key_bytes IsPublicKey rsa_bits
rsa_keys = record { strict = λ u. refl; valid = λ u h. h; payload = λ u h. h }

ec_keys : {A : Type 0} → IsVariant {V = PublicKey A} key.Ec public_key_bytes IsPublicKey key_bits
ec_keys = record { strict = λ u. refl; valid = λ u h. h; payload = λ u h. h }

ed_keys : {A : Type 0} → IsVariant {V = PublicKey A} key.Ed public_key_bytes IsPublicKey key_bits
ed_keys = record { strict = λ u. refl; valid = λ u h. h; payload = λ u h. h }

mldsa_keys : {A : Type 0} → IsVariant {V = PublicKey A} key.Mldsa public_key_bytes IsPublicKey key_bits
mldsa_keys = record { strict = λ u. refl; valid = λ u h. h; payload = λ u h. h }

module _ (A : Type 0) (rsa : Lawful (rsa_bits {A = A})) (bits : Lawful key_bits) where
  public_lawful : (k : KeyKind) → Lawful (public_by_kind {A = A} k)
  public_lawful kinds.Rsa = variant_lawful key.Rsa public_key_bytes IsPublicKey rsa_bits rsa rsa_keys
  public_lawful kinds.Ec = variant_lawful key.Ec public_key_bytes IsPublicKey key_bits bits ec_keys
  public_lawful kinds.Ed = variant_lawful key.Ed public_key_bytes IsPublicKey key_bits bits ed_keys
  public_lawful kinds.Mldsa = variant_lawful key.Mldsa public_key_bytes IsPublicKey key_bits bits mldsa_keys
  public_lawful kinds.Unknown = no_variant_lawful public_key_bytes IsPublicKey

public_begins : (A : Type 0) (k : KeyKind) (c : ℕ) → (public_by_kind {A = A} k).starts c ≡ true → eqb c 3 ≡ true
public_begins A kinds.Rsa c h = h
public_begins A kinds.Ec c h = h
public_begins A kinds.Ed c h = h
public_begins A kinds.Mldsa c h = h
public_begins A kinds.Unknown c h = cc

public_free : (A : Type 0) (k : KeyKind) (c : ℕ) → (public_by_kind {A = A} k).avoids c ≡ false
public_free A kinds.Rsa c = refl
public_free A kinds.Ec c = refl
public_free A kinds.Ed c = refl
public_free A kinds.Mldsa c = refl
public_free A kinds.Unknown c = refl

pub public_family : {A : Type 0} → Lawful (rsa_bits {A = A}) → Lawful key_bits → IsFamily (λ (a : Algorithm A). public_by_kind {A = A} (key_kind a.algorithm)) (λ b. eqb b 3) (λ b. false)
public_family {A} rsa bits = record { lawful = λ a. public_lawful A rsa bits (key_kind a.algorithm); begin = λ a. public_begins A (key_kind a.algorithm); end = λ a c h. public_free A (key_kind a.algorithm) c }

pub public_agrees : {A : Type 0} (k : KeyKind) (v : PublicKey A) → (public_by_kind k).strict v ≡ public_key_bytes v
public_agrees kinds.Rsa v = refl
public_agrees kinds.Ec v = refl
public_agrees kinds.Ed v = refl
public_agrees kinds.Mldsa v = refl
public_agrees kinds.Unknown v = refl

pub public_valid : {A : Type 0} (k : KeyKind) (v : PublicKey A) → IsPublicKey v → (public_by_kind k).valid v
public_valid kinds.Rsa v h = h
public_valid kinds.Ec v h = h
public_valid kinds.Ed v h = h
public_valid kinds.Mldsa v h = h
public_valid kinds.Unknown v h = h

-- The private keys of each kind of algorithm keep the laws.
use Rattle.std.proofs.Common.{◌≡◌, refl, ℕ, true, false, eqb, lit<}
use Rattle.x509_keys_parts.specs.declared.key_kind.KeyKind.{KeyKind}
use Rattle.x509_keys.specs.declared.private_key_value.PrivateKeyValue.{PrivateKeyValue}
use Rattle.x509_keys_parts.specs.AlgorithmIdentifier.{Algorithm}
use Rattle.x509_der.specs.Element.{IsRaw}
use Rattle.x509_der.specs.Shape.{Lawful}
use Rattle.x509_der.specs.DefinedBy.{IsFamily}
use Rattle.x509_der.specs.Tagged.{tagged}
use Rattle.x509_der.specs.PrimitiveContent.{octets}
use Rattle.x509_der.specs.laws.Tagged.{tagged_element}
use Rattle.x509_der.specs.laws.Variant.{variant_lawful, no_variant_lawful, IsVariant}
use Rattle.x509_keys_parts.specs.KeyKinds.{key_kind}
use Rattle.x509_keys.specs.RsaPrivateKeys.{rsa_private_key}
use Rattle.x509_keys.specs.EcPrivateKeys.{ec_private_key}
use Rattle.x509_keys.specs.PrivateKeyValues.{rsa_octets, ec_octets, ed_octets, private_key_bytes, IsPrivateKey, private_by_kind}
use Rattle.x509_keys_parts.specs.declared.key_kind.KeyKind.TheVariants as kinds
use Rattle.x509_keys.specs.declared.private_key_value.PrivateKeyValue.TheVariants as key

rsa_keys : {A : Type 0} → IsVariant {V = PrivateKeyValue A} key.Rsa private_key_bytes IsPrivateKey rsa_octets
rsa_keys = record { strict = λ u. refl; valid = λ u h. h; payload = λ u h. h }

ec_keys : {A : Type 0} → IsVariant {V = PrivateKeyValue A} key.EC private_key_bytes IsPrivateKey ec_octets
ec_keys = record { strict = λ u. refl; valid = λ u h. h; payload = λ u h. h }

ed_keys : {A : Type 0} → IsVariant {V = PrivateKeyValue A} key.ED private_key_bytes IsPrivateKey ed_octets
ed_keys = record { strict = λ u. refl; valid = λ u h. h; payload = λ u h. h }

module _ (A : Type 0) (rsa : Lawful (rsa_octets {A = A})) (ec : Lawful (ec_octets {A = A})) (ed : Lawful ed_octets) where
  private_lawful : (k : KeyKind) → Lawful (private_by_kind {A = A} k)
  private_lawful kinds.Rsa = variant_lawful key.Rsa private_key_bytes IsPrivateKey rsa_octets rsa rsa_keys
  private_lawful kinds.Ec = variant_lawful key.EC private_key_bytes IsPrivateKey ec_octets ec ec_keys
  private_lawful kinds.Ed = variant_lawful key.ED private_key_bytes IsPrivateKey ed_octets ed ed_keys
  private_lawful kinds.Mldsa = no_variant_lawful private_key_bytes IsPrivateKey
  private_lawful kinds.Unknown = no_variant_lawful private_key_bytes IsPrivateKey

private_begins : (A : Type 0) (k : KeyKind) (c : ℕ) → (private_by_kind {A = A} k).starts c ≡ true → eqb c 4 ≡ true
private_begins A kinds.Rsa c h = h
private_begins A kinds.Ec c h = h
private_begins A kinds.Ed c h = h
private_begins A kinds.Mldsa c h = cc
private_begins A kinds.Unknown c h = cc

private_free : (A : Type 0) (k : KeyKind) (c : ℕ) → (private_by_kind {A = A} k).avoids c ≡ false
private_free A kinds.Rsa c = refl
private_free A kinds.Ec c = refl
private_free A kinds.Ed c = refl
private_free A kinds.Mldsa c = refl
private_free A kinds.Unknown c = refl

pub private_family :
    {A : Type 0} → Lawful (rsa_octets {A = A}) → Lawful (ec_octets {A = A}) → Lawful ed_octets →
    IsFamily (λ (a : Algorithm A). private_by_kind {A = A} (key_kind a.algorithm)) (λ b. eqb b 4) (λ b. false)
private_family {A} rsa ec ed = record { lawful = λ a. private_lawful A rsa ec ed (key_kind a.algorithm); begin = λ a. private_begins A (key_kind a.algorithm); end = λ a c h. private_free A (key_kind a.algorithm) c }

pub private_agrees : {A : Type 0} (k : KeyKind) (v : PrivateKeyValue A) → (private_by_kind k).strict v ≡ private_key_bytes v
private_agrees kinds.Rsa v = refl
private_agrees kinds.Ec v = refl
private_agrees kinds.Ed v = refl
private_agrees kinds.Mldsa v = refl
private_agrees kinds.Unknown v = refl

pub private_valid : {A : Type 0} (k : KeyKind) (v : PrivateKeyValue A) → IsPrivateKey v → (private_by_kind k).valid v
private_valid kinds.Rsa v h = h
private_valid kinds.Ec v h = h
private_valid kinds.Ed v h = h
private_valid kinds.Mldsa v h = h
private_valid kinds.Unknown v h = h

-- what is written of a key of whatever kind is one element
pub private_key_is_element : {A : Type 0} (v : PrivateKeyValue A) → IsPrivateKey v → IsRaw (private_key_bytes v)
private_key_is_element (key.Rsa k) h = (tagged_element 4 rsa_private_key refl (lit< tt)).strict k h
private_key_is_element (key.EC k) h = (tagged_element 4 ec_private_key refl (lit< tt)).strict k h
private_key_is_element (key.ED k) h = (tagged_element 4 (tagged 4 octets) refl (lit< tt)).strict k h

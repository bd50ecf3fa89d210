-- The public key of an algorithm, which its object identifier chooses.
use Rattle.std.specs.Prelude.{ℕ, Bool, List, ◌∷◌}
use Rattle.x509_keys_parts.specs.declared.key_kind.KeyKind.{KeyKind}
use Rattle.x509_keys.specs.declared.public_key.PublicKey.{PublicKey}
use Rattle.x509_keys.specs.declared.rsa_public_key.RsaPublicKey.{RsaPublicKey}
use Rattle.x509_der.specs.Element.{element}
use Rattle.x509_der.specs.Shape.{Shape}
use Rattle.x509_der.specs.Tagged.{tagged}
use Rattle.x509_der.specs.Prefixed.{prefixed}
use Rattle.x509_der.specs.BitString.{bit_strings, bit_content}
use Rattle.x509_der.specs.Variant.{variant, no_variant}
use Rattle.x509_keys.specs.RsaPublicKeys.{rsa_public_key}
use Rattle.x509_keys_parts.specs.declared.key_kind.KeyKind.TheVariants as kinds
use Rattle.x509_keys.specs.declared.public_key.PublicKey.TheVariants as key

-- BIT STRING (CONTAINING RSAPublicKey), with no unused bits
abbrev pub rsa_bits : {A : Type 0} → Shape (RsaPublicKey A)
rsa_bits = tagged 3 (prefixed 0 rsa_public_key)

-- BIT STRING
abbrev pub key_bits : Shape (List Bool)
key_bits = tagged 3 bit_strings

-- what is written of a key: a BIT STRING
abbrev pub public_key_bytes : {A : Type 0} → PublicKey A → List ℕ
public_key_bytes (key.Rsa k) = element 3 (0 ∷ rsa_public_key.strict k)
public_key_bytes (key.Ec b) = element 3 (bit_content b)
public_key_bytes (key.Ed b) = element 3 (bit_content b)
public_key_bytes (key.Mldsa b) = element 3 (bit_content b)

-- the values: those of the types of the keys
abbrev pub IsPublicKey : {A : Type 0} → PublicKey A → Type 0
IsPublicKey (key.Rsa k) = rsa_bits.valid k
IsPublicKey (key.Ec b) = key_bits.valid b
IsPublicKey (key.Ed b) = key_bits.valid b
IsPublicKey (key.Mldsa b) = key_bits.valid b

-- how the keys of a kind are spelled: an RSAPublicKey in a BIT STRING (RFC 3279, 2.3.1); else any bits (RFC 5480, 2.2; RFC 8410, 4; RFC 9881, 4)
abbrev pub public_by_kind : {A : Type 0} → KeyKind → Shape (PublicKey A)
public_by_kind kinds.Rsa = variant key.Rsa public_key_bytes IsPublicKey rsa_bits
public_by_kind kinds.Ec = variant key.Ec public_key_bytes IsPublicKey key_bits
public_by_kind kinds.Ed = variant key.Ed public_key_bytes IsPublicKey key_bits
public_by_kind kinds.Mldsa = variant key.Mldsa public_key_bytes IsPublicKey key_bits
public_by_kind kinds.Unknown = no_variant public_key_bytes IsPublicKey

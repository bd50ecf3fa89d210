-- The private key of an algorithm, which its object identifier chooses.
use Rattle.std.specs.Prelude.{ℕ, List}
use Rattle.x509_keys_parts.specs.declared.key_kind.KeyKind.{KeyKind}
use Rattle.x509_keys.specs.declared.private_key_value.PrivateKeyValue.{PrivateKeyValue}
use Rattle.x509_keys.specs.declared.rsa_private_key.RsaPrivateKey.{RsaPrivateKey}
use Rattle.x509_keys.specs.declared.ec_private_key.ECPrivateKey.{ECPrivateKey}
use Rattle.x509_der.specs.Element.{element}
use Rattle.x509_der.specs.Shape.{Shape}
use Rattle.x509_der.specs.Tagged.{tagged}
use Rattle.x509_der.specs.PrimitiveContent.{octets}
use Rattle.x509_der.specs.Variant.{variant, no_variant}
use Rattle.x509_keys.specs.RsaPrivateKeys.{rsa_private_key}
use Rattle.x509_keys.specs.EcPrivateKeys.{ec_private_key}
use Rattle.x509_keys_parts.specs.declared.key_kind.KeyKind.TheVariants as kinds
use Rattle.x509_keys.specs.declared.private_key_value.PrivateKeyValue.TheVariants as key

-- OCTET STRING (CONTAINING RSAPrivateKey)
abbrev pub rsa_octets : {A : Type 0} → Shape (RsaPrivateKey A)
rsa_octets = tagged 4 rsa_private_key

-- OCTET STRING (CONTAINING ECPrivateKey)
abbrev pub ec_octets : {A : Type 0} → Shape (ECPrivateKey A)
ec_octets = tagged 4 ec_private_key

-- OCTET STRING (CONTAINING CurvePrivateKey), where CurvePrivateKey ::= OCTET STRING
abbrev pub ed_octets : Shape (List ℕ)
ed_octets = tagged 4 (tagged 4 octets)

-- what is written of a key: an OCTET STRING around it
abbrev pub private_key_bytes : {A : Type 0} → PrivateKeyValue A → List ℕ
private_key_bytes (key.Rsa k) = element 4 (rsa_private_key.strict k)
private_key_bytes (key.EC k) = element 4 (ec_private_key.strict k)
private_key_bytes (key.ED k) = element 4 (element 4 k)

-- the values: those of the types of the keys
abbrev pub IsPrivateKey : {A : Type 0} → PrivateKeyValue A → Type 0
IsPrivateKey (key.Rsa k) = rsa_octets.valid k
IsPrivateKey (key.EC k) = ec_octets.valid k
IsPrivateKey (key.ED k) = ed_octets.valid k

-- how the keys of a kind are spelled (RFC 8017, A.1.2; RFC 5915, 3; RFC 8410, 7)
abbrev pub private_by_kind : {A : Type 0} → KeyKind → Shape (PrivateKeyValue A)
private_by_kind kinds.Rsa = variant key.Rsa private_key_bytes IsPrivateKey rsa_octets
private_by_kind kinds.Ec = variant key.EC private_key_bytes IsPrivateKey ec_octets
private_by_kind kinds.Ed = variant key.ED private_key_bytes IsPrivateKey ed_octets
private_by_kind kinds.Mldsa = no_variant private_key_bytes IsPrivateKey
private_by_kind kinds.Unknown = no_variant private_key_bytes IsPrivateKey

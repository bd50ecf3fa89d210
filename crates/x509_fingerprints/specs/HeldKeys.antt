-- The public keys that keys hold, as the DER encoding of a SubjectPublicKeyInfo (RFC 5280, 4.1.2.7).
use Rattle.std.specs.Prelude.{ℕ, Bool, List, Option, Some, None, option_map}
use Rattle.std.specs.Option.{option_or}
use Rattle.x509_keys.specs.declared.private_key_value.PrivateKeyValue.{PrivateKeyValue}
use Rattle.x509_keys.specs.declared.private_key_info.PrivateKeyInfo.{PrivateKeyInfo}
use Rattle.x509_keys.specs.declared.rsa_public_key.RsaPublicKey.{RsaPublicKey}
use Rattle.x509_keys.specs.declared.public_key.PublicKey.{PublicKey}
use Rattle.x509_keys.specs.declared.subject_public_key_info.SubjectPublicKeyInfo.{SubjectPublicKeyInfo}
use Rattle.x509_keys.specs.AlgorithmIdentifier.{Algorithm}
use Rattle.x509_keys.specs.EcParameters.{curve_of}
use Rattle.x509_keys.specs.SubjectPublicKeyInfos.{subject_bytes, subject_of, rsa_subject, ec_subject}
use Rattle.x509_keys.specs.Types.{EcParameters}
use Rattle.x509_keys.specs.declared.private_key_value.PrivateKeyValue.TheVariants as secret
use Rattle.x509_keys.specs.declared.public_key.PublicKey.TheVariants as key

-- the RSA key of a modulus and a public exponent
abbrev pub rsa_key : {A : Type 0} → (modulus exponent : List ℕ) → RsaPublicKey A
rsa_key modulus exponent = record { modulus = modulus; public_exponent = exponent }

-- the same, with rsaEncryption as its algorithm (RFC 3279, 2.3.1)
abbrev pub rsa_bytes : (A : Type 0) → (modulus exponent : List ℕ) → List ℕ
rsa_bytes A modulus exponent = subject_bytes (rsa_subject {A = A} (rsa_key modulus exponent))

-- a point of a curve, with id-ecPublicKey as its algorithm (RFC 5480, 2.1.1)
abbrev pub point_key : {A : Type 0} → EcParameters A → List Bool → SubjectPublicKeyInfo A
point_key curve point = ec_subject (curve_of curve) point

abbrev pub point_bytes : {A : Type 0} → EcParameters A → List Bool → List ℕ
point_bytes curve point = subject_bytes (point_key curve point)

-- a key of an algorithm
abbrev pub key_bytes : {A : Type 0} → Algorithm A → PublicKey A → List ℕ
key_bytes algorithm k = subject_bytes (subject_of algorithm k)

-- of an elliptic curve's private key that names its curve and holds its point (RFC 5915, 3)
abbrev pub point_held : {A : Type 0} → Option (EcParameters A) → Option (List Bool) → Option (List ℕ)
point_held None point = None
point_held (Some curve) point = option_map (λ bits. point_bytes curve bits) point

-- of a private key with its algorithm: one of RSA has the public numbers among its own (RFC 8017, A.1.2), one of an
-- elliptic curve may hold its point (RFC 5915, 3), and behind each may stand the public key (RFC 5958, 2)
abbrev pub held_behind : {A : Type 0} → Algorithm A → PrivateKeyValue A → Option (List Bool) → Option (List ℕ)
held_behind algorithm (secret.Rsa k) behind = Some (key_bytes algorithm (key.Rsa (rsa_key k.modulus k.public_exponent)))
held_behind algorithm (secret.EC k) behind = option_map (λ bits. key_bytes algorithm (key.Ec bits)) (option_or k.public_key behind)
held_behind algorithm (secret.ED k) behind = option_map (λ bits. key_bytes algorithm (key.Ed bits)) behind

abbrev pub held : {A : Type 0} → PrivateKeyInfo A → Option (List ℕ)
held k = held_behind k.private_key_algorithm k.private_key k.public_key

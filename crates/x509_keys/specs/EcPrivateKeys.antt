-- Elliptic curve private keys (RFC 5915, 3).
use Rattle.std.specs.Prelude.{◌≡◌, ℕ, Bool, true, false, ◌==◌, List, [], ◌∷◌, Option}
use Rattle.x509_keys_parts.specs.declared.ec_parameters.EcParameters.{EcParameters}
use Rattle.x509_keys.specs.declared.ec_private_key.ECPrivateKey.{ECPrivateKey}
use Rattle.x509_der.specs.declared.integer.Magnitude.{Magnitude}
use Rattle.x509_der.specs.declared.integer.Magnitude.TheVariants as magnitudes
use Rattle.x509_der.specs.Types.{Deviation}
use Rattle.x509_der.specs.Shape.{Shape}
use Rattle.x509_der.specs.Tagged.{tagged}
use Rattle.x509_der.specs.Join.{join}
use Rattle.x509_der.specs.Optional.{optional}
use Rattle.x509_der.specs.PrimitiveContent.{octets}
use Rattle.x509_der.specs.BitString.{bit_strings}
use Rattle.x509_der.specs.View.{Meaning, seen}
use Rattle.x509_keys_parts.specs.EcParameters.{ec_parameters}
use Rattle.x509_keys.specs.RsaPublicKeys.{number}
use Rattle.x509_keys.specs.ReadIf.{read_if}

-- the fields that may be absent
abbrev pub OptionalFields : Type 0 → Type 0
OptionalFields A = Option (EcParameters A) × Option (List Bool)

abbrev pub optional_parts : {A : Type 0} → ECPrivateKey A → OptionalFields A
optional_parts v = (v.parameters, v.public_key)

-- the fields as they stand in the SEQUENCE
abbrev pub EcFields : Type 0 → Type 0
EcFields A = List ℕ × (List ℕ × OptionalFields A)

abbrev pub ec_key_parts : {A : Type 0} → ECPrivateKey A → EcFields A
ec_key_parts v = (v.version, (v.private_key, optional_parts v))

abbrev pub ec_key_of : {A : Type 0} → EcFields A → ECPrivateKey A
ec_key_of f = record { version = f.0; private_key = f.1.0; parameters = f.1.1.0; public_key = f.1.1.1 }

abbrev pub ec_key_with : {A : Type 0} → List ℕ → List ℕ → Option (EcParameters A) → Option (List Bool) → ECPrivateKey A
ec_key_with v k p b = ec_key_of (v, (k, (p, b)))

-- parameters [0] EXPLICIT ECParameters
abbrev pub ec_curve : {A : Type 0} → Shape (EcParameters A)
ec_curve = tagged 160 ec_parameters

-- publicKey [1] EXPLICIT BIT STRING
abbrev pub ec_point : Shape (List Bool)
ec_point = tagged 161 (tagged 3 bit_strings)

abbrev pub ec_key_optional : {A : Type 0} → Shape (OptionalFields A)
ec_key_optional = join (λ j. j.0) (λ j. j.1) (optional ec_curve) (optional ec_point)

abbrev pub ec_key_inner : {A : Type 0} → Shape (EcFields A)
ec_key_inner = join (λ j. j.0) (λ j. j.1) number (join (λ j. j.0) (λ j. j.1) (tagged 4 octets) ec_key_optional)

-- ECPrivateKey ::= SEQUENCE { version INTEGER, privateKey OCTET STRING, parameters [0] ECParameters OPTIONAL, publicKey [1] BIT STRING OPTIONAL } (RFC 5915, 3)
abbrev pub ec_key_base : {A : Type 0} → Shape (EcFields A)
ec_key_base = tagged 48 ec_key_inner

-- the content of the INTEGER 1, ecPrivkeyVer1
abbrev pub is_one : List ℕ → Bool
is_one [] = false
is_one (a ∷ []) = a == 1
is_one (a ∷ b ∷ r) = false

-- the same, by how large the number is
abbrev pub is_byte_one : Magnitude → Bool
is_byte_one magnitudes.Negative = false
is_byte_one (magnitudes.Byte n) = n == 1
is_byte_one magnitudes.Small = false
is_byte_one magnitudes.Large = false

-- version INTEGER { ecPrivkeyVer1(1) } (ecPrivkeyVer1): keys of other versions aren't read
abbrev pub ec_key_means : {A : Type 0} → EcFields A → Option (ECPrivateKey A × List Deviation)
ec_key_means f = read_if (is_one f.0) (ec_key_of f) []

-- other versions are written and not read back
abbrev pub ec_key_meaning : {A : Type 0} → Meaning (EcFields A) (ECPrivateKey A)
ec_key_meaning = record {
  of = ec_key_means;
  back = ec_key_parts;
  valid = λ v. ec_key_inner.valid (ec_key_parts v);
  readable = λ v. (is_one v.version ≡ true) × ec_key_inner.readable (ec_key_parts v);
}

abbrev pub ec_private_key : {A : Type 0} → Shape (ECPrivateKey A)
ec_private_key = seen ec_key_meaning ec_key_base

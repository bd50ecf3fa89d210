-- A private key and its algorithm, and perhaps the public key (RFC 5958, 2).
use Rattle.std.specs.Prelude.{◌≡◌, ℕ, Bool, true, false, not, ◌||◌, ◌==◌, List, [], ◌∷◌, ◌++◌, Option, Some, None}
use Rattle.std.proofs.Common.{eqb}
use Rattle.x509_keys_parts.specs.declared.ec_parameters.EcParameters.{EcParameters}
use Rattle.x509_keys.specs.declared.private_key_value.PrivateKeyValue.{PrivateKeyValue}
use Rattle.x509_keys.specs.declared.private_key_info.PrivateKeyInfo.{PrivateKeyInfo}
use Rattle.x509_keys.specs.declared.rsa_private_key.RsaPrivateKey.{RsaPrivateKey}
use Rattle.x509_keys.specs.declared.ec_private_key.ECPrivateKey.{ECPrivateKey}
use Rattle.x509_der.specs.Types.{Deviation}
use Rattle.x509_der.specs.Element.{element}
use Rattle.x509_der.specs.Shape.{Shape}
use Rattle.x509_der.specs.Tagged.{tagged}
use Rattle.x509_der.specs.Join.{join}
use Rattle.x509_der.specs.Optional.{optional, optional_strict}
use Rattle.x509_der.specs.SmallInteger.{small_integers, small_integer_content}
use Rattle.x509_der.specs.BitString.{bit_strings}
use Rattle.x509_der.specs.RawIn.{raws_in}
use Rattle.x509_der.specs.DefinedBy.{defined_by}
use Rattle.x509_der.specs.View.{Meaning, seen}
use Rattle.x509_keys_parts.specs.AlgorithmKinds.{ec_public_key_algorithm}
use Rattle.x509_keys_parts.specs.AlgorithmIdentifier.{Algorithm, identified, algorithm_identifier, algorithm_bytes, written_fields}
use Rattle.x509_keys_parts.specs.KeyKinds.{rsa_encryption, key_kind}
use Rattle.x509_keys.specs.PrivateKeyValues.{private_by_kind, private_key_bytes}
use Rattle.x509_keys.specs.ReadIf.{read_if}
use Rattle.x509_der.specs.Types.deviation
use Rattle.x509_keys.specs.declared.private_key_value.PrivateKeyValue.TheVariants as key
use Rattle.x509_keys_parts.specs.declared.algorithm_parameters.AlgorithmIdentifierParameters.TheVariants as parameters
use Rattle.x509_keys_parts.specs.declared.ec_parameters.EcParameters.TheVariants.{NamedCurve}

-- the algorithm, and the key of the kind that its object identifier says
abbrev pub KeyFields : Type 0 → Type 0
KeyFields A = Algorithm A × PrivateKeyValue A

abbrev pub info_key : {A : Type 0} → Shape (KeyFields A)
info_key = defined_by (λ c. c.0) (λ c. c.1) algorithm_identifier (λ a. private_by_kind (key_kind a.algorithm)) (λ b. eqb b 4) (λ b. false)

-- any tag but that of a public key, A1
abbrev pub is_skipped : ℕ → Bool
is_skipped b = not (eqb b 161)

-- one element that is left out where it is written, as attributes [0]
abbrev pub skipped : Shape (List ℕ)
skipped = raws_in is_skipped

-- publicKey [1] EXPLICIT BIT STRING
abbrev pub info_public_key : Shape (List Bool)
info_public_key = tagged 161 (tagged 3 bit_strings)

-- the fields as they stand in the SEQUENCE: the version, the key, an element that is skipped, the public key
abbrev pub InfoFields : Type 0 → Type 0
InfoFields A = ℕ × (KeyFields A × (Option (List ℕ) × Option (List Bool)))

abbrev pub info_inner : {A : Type 0} → Shape (InfoFields A)
info_inner = join (λ j. j.0) (λ j. j.1) (tagged 2 small_integers) (join (λ j. j.0) (λ j. j.1) info_key (join (λ j. j.0) (λ j. j.1) (optional skipped) (optional info_public_key)))

-- OneAsymmetricKey ::= SEQUENCE { version INTEGER (0..255), privateKeyAlgorithm AlgorithmIdentifier, privateKey OCTET STRING, one element OPTIONAL, publicKey [1] BIT STRING OPTIONAL } (RFC 5958, 2)
abbrev pub info_base : {A : Type 0} → Shape (InfoFields A)
info_base = tagged 48 info_inner

abbrev pub info_of : {A : Type 0} → InfoFields A → PrivateKeyInfo A
info_of f = record { version = f.0; private_key_algorithm = f.1.0.0; private_key = f.1.0.1; public_key = f.1.1.1 }

abbrev pub info_with : {A : Type 0} → ℕ → Algorithm A → PrivateKeyValue A → Option (List Bool) → PrivateKeyInfo A
info_with n a k b = record { version = n; private_key_algorithm = a; private_key = k; public_key = b }

-- the fields that are written: nothing between the private key and the public key
abbrev pub info_back : {A : Type 0} → PrivateKeyInfo A → InfoFields A
info_back v = (v.version, ((v.private_key_algorithm, v.private_key), (None, v.public_key)))

-- Version ::= INTEGER { v1(0), v2(1) } (v1, ..., v2)
abbrev pub is_version : ℕ → Bool
is_version n = (n == 0) || (n == 1)

-- the deviation of an element that is skipped
abbrev pub skipped_kinds : Option (List ℕ) → List Deviation
skipped_kinds None = []
skipped_kinds (Some e) = deviation.SkippedKeyElement ∷ []

-- keys of other versions aren't read; whether there is a public key doesn't matter
abbrev pub info_means : {A : Type 0} → InfoFields A → Option (PrivateKeyInfo A × List Deviation)
info_means f = read_if (is_version f.0) (info_of f) (skipped_kinds f.1.1.0)

-- other versions are written and not read back
abbrev pub info_meaning : {A : Type 0} → Meaning (InfoFields A) (PrivateKeyInfo A)
info_meaning = record {
  of = info_means;
  back = info_back;
  valid = λ v. info_inner.valid (info_back v);
  readable = λ v. (is_version v.version ≡ true) × info_inner.readable (info_back v);
}

abbrev pub private_key_info : {A : Type 0} → Shape (PrivateKeyInfo A)
private_key_info = seen info_meaning info_base

-- what is written, also of a key that isn't of the algorithm's kind
abbrev pub info_bytes : {A : Type 0} → PrivateKeyInfo A → List ℕ
info_bytes v = element 48 (element 2 (small_integer_content v.version) ++ ((algorithm_bytes (written_fields v.private_key_algorithm) ++ private_key_bytes v.private_key) ++ optional_strict info_public_key.strict v.public_key))

-- an RSA key: version 0, and no public key
abbrev pub rsa_info : {A : Type 0} → RsaPrivateKey A → PrivateKeyInfo A
rsa_info k = info_with 0 (identified rsa_encryption parameters.Null) (key.Rsa k) None

-- the curve inside an elliptic curve key, unless it is left out
abbrev pub curve_unless : {A : Type 0} → Bool → List ℕ → Option (EcParameters A)
curve_unless true curve = None
curve_unless false curve = Some (NamedCurve curve)

-- a key of a named curve: version 0, and no public key outside of it
abbrev pub ec_info : {A : Type 0} → List ℕ → ECPrivateKey A → PrivateKeyInfo A
ec_info curve k = info_with 0 (identified ec_public_key_algorithm (parameters.Ec (NamedCurve curve))) (key.EC k) None

-- the version where a public key is given, and where none is
abbrev pub version_with : Option (List Bool) → ℕ
version_with None = 0
version_with (Some b) = 1

-- a key of an algorithm without parameters (RFC 8410, 7)
abbrev pub ed_info : {A : Type 0} → List ℕ → List ℕ → Option (List Bool) → PrivateKeyInfo A
ed_info algorithm secret bits = info_with (version_with bits) (identified algorithm parameters.None) (key.ED secret) bits

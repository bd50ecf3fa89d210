-- What is told of a public key (RFC 5280, 4.1.2.7).
use Rattle.std.specs.Prelude.{◌≡◌, ℕ, ◌*◌, ◌<◌, ◌^◌, List, length, Option, Some, None}
use Rattle.x509_der.specs.BitString.{payload}
use Rattle.x509_der.specs.Integer.{unsigned_value}
use Rattle.x509_der.specs.ObjectIdentifier.{oid_content}
use Rattle.x509_keys.specs.EcParameters.{curve_of}
use Rattle.x509_keys.specs.Types.{AlgorithmIdentifierParameters}
use Rattle.x509_keys.specs.Types.algorithm_identifier_parameters as parameters
use Rattle.x509_keys.specs.declared.public_key.PublicKey.{PublicKey}
use Rattle.x509_keys.specs.declared.public_key.PublicKey.TheVariants as key
use Rattle.x509_keys.specs.declared.subject_public_key_info.SubjectPublicKeyInfo.{SubjectPublicKeyInfo}
use Rattle.x509_flat_values.specs.Covered.{CoversAll, CoversIf, no_span}
use Rattle.x509_flat_values.specs.Curves.{size_if, size_or}
use Rattle.x509_flat_values.specs.Numbers.{IsBitLength}
use Rattle.x509_flat_values.specs.declared.keys.KeyPlaces.{KeyPlaces}

-- the curve that the parameters name, if any (RFC 5480, 2.1.1)
abbrev pub curve_in : {A : Type 0} → AlgorithmIdentifierParameters A → Option (List ℕ)
curve_in parameters.None = None
curve_in parameters.Null = None
curve_in (parameters.Aes p) = None
curve_in (parameters.Ec p) = Some (curve_of p)
curve_in (parameters.RsassaPss p) = None

-- the content of an object identifier, where there is one
abbrev pub content_if : Option (List ℕ) → Option (List ℕ)
content_if (Some arcs) = Some (oid_content arcs)
content_if None = None

-- the modulus and the exponent of an RSA key, as the contents of INTEGERs (RFC 8017, A.1.1)
abbrev pub modulus_in : {A : Type 0} → PublicKey A → Option (List ℕ)
modulus_in (key.Rsa k) = Some k.modulus
modulus_in (key.Ec b) = None
modulus_in (key.Ed b) = None
modulus_in (key.Mldsa b) = None

abbrev pub exponent_in : {A : Type 0} → PublicKey A → Option (List ℕ)
exponent_in (key.Rsa k) = Some k.public_exponent
exponent_in (key.Ec b) = None
exponent_in (key.Ed b) = None
exponent_in (key.Mldsa b) = None

-- the bytes of another key: a point (RFC 5480, 2.2), or the key itself (RFC 8410, 4; RFC 9881, 4)
abbrev pub bytes_in : {A : Type 0} → PublicKey A → Option (List ℕ)
bytes_in (key.Rsa k) = None
bytes_in (key.Ec b) = Some (payload b)
bytes_in (key.Ed b) = Some (payload b)
bytes_in (key.Mldsa b) = Some (payload b)

-- the size of a key in bits: that of the modulus, of less than 2^61 bytes; of another key, what its curve or its algorithm says
abbrev pub SizeTold : {A : Type 0} → List ℕ → Option (List ℕ) → PublicKey A → ℕ → Type 0
SizeTold algorithm curve (key.Rsa k) bits = 8 * length k.modulus < 2 ^ 64 → IsBitLength (unsigned_value k.modulus) bits
SizeTold algorithm curve (key.Ec b) bits = bits ≡ size_or algorithm (size_if curve)
SizeTold algorithm curve (key.Ed b) bits = bits ≡ size_or algorithm (size_if curve)
SizeTold algorithm curve (key.Mldsa b) bits = bits ≡ size_or algorithm (size_if curve)

-- where the parts of a key stand in a string
pub record KeyTold {A : Type 0} (string : List ℕ) (v : SubjectPublicKeyInfo A) (at : KeyPlaces) : Type 0 where
  pub algorithm : CoversAll string at.algorithm (oid_content v.algorithm.algorithm)
  pub curve : CoversIf string at.curve (content_if (curve_in v.algorithm.parameters))
  pub bits : SizeTold v.algorithm.algorithm (curve_in v.algorithm.parameters) v.subject_public_key at.bits
  pub modulus : CoversIf string at.modulus (modulus_in v.subject_public_key)
  pub exponent : CoversIf string at.exponent (exponent_in v.subject_public_key)
  pub key : CoversIf string at.key (bytes_in v.subject_public_key)

abbrev pub no_key : KeyPlaces
no_key = record { algorithm = no_span; curve = no_span; bits = 0; modulus = no_span; exponent = no_span; key = no_span }

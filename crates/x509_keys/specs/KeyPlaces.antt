-- Where the parts of keys stand.
use Rattle.std.specs.Prelude.{◌≡◌, ℕ, ◌+◌, List, [], ◌∷◌, ◌++◌, length, Option}
use Rattle.x509_der.specs.Element.{element, header}
use Rattle.x509_der.specs.Fields.{FieldAt, Stands, Beside}
use Rattle.x509_der.specs.Optional.{OptionalAt}
use Rattle.x509_der.specs.PrimitiveContent.{octets}
use Rattle.x509_der.specs.SmallInteger.{small_integers}
use Rattle.x509_der.specs.Tagged.{tagged}
use Rattle.x509_der.specs.Tally.{Tally}
use Rattle.x509_keys_parts.specs.AlgorithmIdentifier.{algorithm_identifier}
use Rattle.x509_keys.specs.declared.ec_private_key.ECPrivateKey.{ECPrivateKey}
use Rattle.x509_keys.specs.declared.private_key_info.PrivateKeyInfo.{PrivateKeyInfo}
use Rattle.x509_keys.specs.declared.rsa_private_key.RsaPrivateKey.{RsaPrivateKey}
use Rattle.x509_keys.specs.declared.rsa_public_key.RsaPublicKey.{RsaPublicKey}
use Rattle.x509_keys.specs.declared.subject_public_key_info.SubjectPublicKeyInfo.{SubjectPublicKeyInfo}
use Rattle.x509_keys.specs.EcPrivateKeys.{ec_curve, ec_point}
use Rattle.x509_keys_parts.specs.KeyKinds.{key_kind}
use Rattle.x509_keys.specs.PrivateKeyInfos.{skipped, info_public_key}
use Rattle.x509_keys.specs.PrivateKeyValues.{private_by_kind}
use Rattle.x509_keys.specs.PublicKeys.{public_by_kind}
use Rattle.x509_keys.specs.RsaPublicKeys.{number}

-- the algorithm stands right behind the header, and behind it the key in the shape of its kind
pub record SubjectAt {A : Type 0} (v : SubjectPublicKeyInfo A) (string : List ℕ) (y : Tally) : Type 0 where
  pub content : List ℕ
  pub bytes : string ≡ element 48 content
  pub algorithms : List ℕ
  pub keys : List ℕ
  pub fields : content ≡ algorithms ++ keys
  pub algorithm_at : FieldAt algorithm_identifier v.algorithm (header content) algorithms string y
  pub key_at : Stands (public_by_kind (key_kind v.algorithm.algorithm)) v.subject_public_key (header content + length algorithms) keys string y

-- the numbers of an RSA key, whose BIT STRING stands behind n bytes: the modulus behind the two headers and the byte 00 between them, and the public exponent behind it
pub record RsaNumbersAt {A : Type 0} (k : RsaPublicKey A) (n : ℕ) (slice string : List ℕ) (y : Tally) : Type 0 where
  pub content : List ℕ
  pub bytes : slice ≡ element 3 (0 ∷ element 48 content)
  pub moduli : List ℕ
  pub exponents : List ℕ
  pub numbers : content ≡ moduli ++ exponents
  pub modulus_at : FieldAt number k.modulus (((n + header (0 ∷ element 48 content)) + 1) + header content) moduli string y
  pub exponent_at : FieldAt number k.public_exponent ((((n + header (0 ∷ element 48 content)) + 1) + header content) + length moduli) exponents string y

-- the version, the algorithm, the key in the shape of its kind, an element that is skipped, the public key, each behind the others
pub record InfoAt {A : Type 0} (v : PrivateKeyInfo A) (string : List ℕ) (y : Tally) : Type 0 where
  pub content : List ℕ
  pub bytes : string ≡ element 48 content
  pub versions : List ℕ
  pub algorithms : List ℕ
  pub keys : List ℕ
  pub others : List ℕ
  pub publics : List ℕ
  pub between : Option (List ℕ)
  pub fields : content ≡ versions ++ ((algorithms ++ keys) ++ (others ++ publics))
  pub version_at : FieldAt (tagged 2 small_integers) v.version (header content) versions string y
  pub algorithm_at : FieldAt algorithm_identifier v.private_key_algorithm (header content + length versions) algorithms string y
  pub octets : List ℕ
  pub key_bytes : keys ≡ element 4 octets
  pub key_at : Stands (private_by_kind (key_kind v.private_key_algorithm.algorithm)) v.private_key ((header content + length versions) + length algorithms) keys string y
  pub other_at : OptionalAt skipped between ((header content + length versions) + length (algorithms ++ keys)) others string y
  pub public_at : OptionalAt info_public_key v.public_key (((header content + length versions) + length (algorithms ++ keys)) + length others) publics string y

-- the nine numbers of an RSA private key, in their order
abbrev pub private_numbers : {A : Type 0} → RsaPrivateKey A → List (List ℕ)
private_numbers k =
    k.version
    ∷ k.modulus
    ∷ k.public_exponent
    ∷ k.private_exponent
    ∷ k.prime_1
    ∷ k.prime_2
    ∷ k.exponent_1
    ∷ k.exponent_2
    ∷ k.coefficient
    ∷ []

-- numbers, each an INTEGER, stand one behind another in a slice, and nothing else does
abbrev pub NumbersAt : List (List ℕ) → ℕ → List ℕ → List ℕ → Tally → Type 0
NumbersAt [] n slice string y = slice ≡ []
NumbersAt (v ∷ vs) n slice string y = Beside (λ m p. FieldAt number v m p string y) (λ m p. NumbersAt vs m p string y) n slice

-- the two numbers of an RSA public key that stands behind n bytes: behind its header
pub record RsaPublicAt {A : Type 0} (k : RsaPublicKey A) (n : ℕ) (slice string : List ℕ) (y : Tally) : Type 0 where
  pub content : List ℕ
  pub bytes : slice ≡ element 48 content
  pub numbers_at : NumbersAt (k.modulus ∷ k.public_exponent ∷ []) (n + header content) content string y

-- the numbers of an RSA private key that stands behind n bytes: behind its header
pub record RsaPrivateAt {A : Type 0} (k : RsaPrivateKey A) (n : ℕ) (slice string : List ℕ) (y : Tally) : Type 0 where
  pub content : List ℕ
  pub bytes : slice ≡ element 48 content
  pub numbers_at : NumbersAt (private_numbers k) (n + header content) content string y

-- the parts of an elliptic curve key that stands behind n bytes: the version, the secret, the curve and the point
pub record EcPrivateAt {A : Type 0} (k : ECPrivateKey A) (n : ℕ) (slice string : List ℕ) (y : Tally) : Type 0 where
  pub content : List ℕ
  pub bytes : slice ≡ element 48 content
  pub versions : List ℕ
  pub secrets : List ℕ
  pub curves : List ℕ
  pub points : List ℕ
  pub fields : content ≡ versions ++ (secrets ++ (curves ++ points))
  pub version_at : FieldAt number k.version (n + header content) versions string y
  pub secret_at : FieldAt (tagged 4 octets) k.private_key ((n + header content) + length versions) secrets string y
  pub curve_at : OptionalAt ec_curve k.parameters (((n + header content) + length versions) + length secrets) curves string y
  pub point_at : OptionalAt ec_point k.public_key ((((n + header content) + length versions) + length secrets) + length curves) points string y

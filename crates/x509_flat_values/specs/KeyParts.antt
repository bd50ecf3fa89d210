-- The parts of a public key, as a walk over its fields finds them.
use Rattle.std.specs.Prelude.{◌≡◌, ℕ, ◌*◌, ◌<◌, ◌^◌, Bool, List, length, None}
use Rattle.x509_der.specs.BitString.{payload}
use Rattle.x509_der.specs.Integer.{unsigned_value}
use Rattle.x509_der.specs.ObjectIdentifier.{IsOid}
use Rattle.x509_der.specs.Tally.{Tally}
use Rattle.x509_keys.specs.KeyKinds.{key_kind}
use Rattle.x509_keys.specs.RsaPublicKeys.{rsa_public_key}
use Rattle.x509_keys.specs.Types.{AlgorithmIdentifierParameters}
use Rattle.x509_keys.specs.declared.public_key.PublicKey.{PublicKey}
use Rattle.x509_keys.specs.declared.public_key.PublicKey.TheVariants as key
use Rattle.x509_keys.specs.declared.rsa_public_key.RsaPublicKey.{RsaPublicKey}
use Rattle.x509_keys.specs.declared.subject_public_key_info.SubjectPublicKeyInfo.{SubjectPublicKeyInfo}
use Rattle.x509_keys_parts.specs.declared.key_kind.KeyKind.{KeyKind}
use Rattle.x509_keys_parts.specs.declared.key_kind.KeyKind.TheVariants as kinds
use Rattle.x509_fields.specs.declared.span.Span.{Span}
use Rattle.x509_flat_values.specs.Covered.{CoversAll, CoversIf, no_span}
use Rattle.x509_flat_values.specs.Curves.{size_if}
use Rattle.x509_flat_values.specs.Keys.{content_if, curve_in}
use Rattle.x509_flat_values.specs.Numbers.{IsBitLength}
use Rattle.x509_flat_values.specs.declared.keys.Curve.{Curve}
use Rattle.x509_flat_values.specs.declared.rsa.RsaPlaces.{RsaPlaces}

-- an RSA key (RFC 3279, 2.3.1)
pub record RsaBytes {A : Type 0} (v : PublicKey A) (more : List ℕ) : Type 0 where
  pub value : RsaPublicKey A
  pub tally : Tally
  pub is : v ≡ key.Rsa value
  pub spelled : rsa_public_key.spelled value more tally

-- bits in whole bytes, the last of which may be filled with zeros
pub record RawBytes {A : Type 0} (make : List Bool → PublicKey A) (v : PublicKey A) (more : List ℕ) : Type 0 where
  pub bits : List Bool
  pub is : v ≡ make bits
  pub bytes : more ≡ payload bits

-- what stands behind the first byte of a key's BIT STRING, by the kind of its algorithm
abbrev pub KeySays : {A : Type 0} → KeyKind → PublicKey A → List ℕ → Type 0
KeySays kinds.Rsa v more = RsaBytes v more
KeySays kinds.Ec v more = RawBytes key.Ec v more
KeySays kinds.Ed v more = RawBytes key.Ed v more
KeySays kinds.Mldsa v more = RawBytes key.Mldsa v more
KeySays kinds.Unknown v more = ⊥

-- it stands where a span says
pub record KeyBytes {A : Type 0} (kind : KeyKind) (v : PublicKey A) (string : List ℕ) (at : Span) : Type 0 where
  pub bytes : List ℕ
  pub covers : CoversAll string at bytes
  pub says : KeySays kind v bytes

-- the curve of parameters, and its size
pub record CurveTold {A : Type 0} (v : AlgorithmIdentifierParameters A) (string : List ℕ) (curve : Curve) : Type 0 where
  pub place : CoversIf string curve.place (content_if (curve_in v))
  pub size : curve.size ≡ size_if (curve_in v)

-- the identifier's content, where it stands, the curve, and the key's bytes
pub record PartsTold {A : Type 0} (v : SubjectPublicKeyInfo A) (string identifier : List ℕ) (algorithm : Span) (curve : Curve) (at : Span) : Type 0 where
  pub is_oid : IsOid v.algorithm.algorithm identifier
  pub algorithm_at : CoversAll string algorithm identifier
  pub curve_at : CurveTold v.algorithm.parameters string curve
  pub key_at : KeyBytes (key_kind v.algorithm.algorithm) v.subject_public_key string at

-- the two numbers of an RSA key, and the modulus's size
pub record RsaTold {A : Type 0} (k : RsaPublicKey A) (string : List ℕ) (at : RsaPlaces) : Type 0 where
  pub modulus : CoversAll string at.modulus k.modulus
  pub exponent : CoversAll string at.exponent k.public_exponent
  pub bits : 8 * length k.modulus < 2 ^ 64 → IsBitLength (unsigned_value k.modulus) at.bits

abbrev pub no_curve : Curve
no_curve = record { place = no_span; size = None }

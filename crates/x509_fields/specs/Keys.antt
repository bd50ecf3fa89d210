-- Where the fields of a private key with its algorithm stand (RFC 5958, 2).
use Rattle.std.specs.Prelude.{ℕ, List, [], ◌∷◌, Option, Some}
use Rattle.x509_der.specs.SmallInteger.{small_integers}
use Rattle.x509_der.specs.Tagged.{tagged}
use Rattle.x509_der.specs.Tally.{Tally}
use Rattle.x509_keys.specs.AlgorithmIdentifier.{algorithm_identifier}
use Rattle.x509_keys.specs.KeyKinds.{key_kind}
use Rattle.x509_keys.specs.PrivateKeyInfos.{skipped, info_public_key}
use Rattle.x509_keys.specs.PrivateKeyValues.{private_by_kind}
use Rattle.x509_keys.specs.declared.private_key_info.PrivateKeyInfo.{PrivateKeyInfo}
use Rattle.x509_fields.specs.Spans.{FieldIn, OptionalIn, Fill, all_of}
use Rattle.x509_fields.specs.declared.private_key.PrivateKeyInfoFields.{PrivateKeyInfoFields}
use Rattle.x509_fields.specs.declared.span.Span.{Span}

-- the fields in the order of their definition
abbrev pub key_spans : PrivateKeyInfoFields → List (Option Span)
key_spans at = Some at.version ∷ Some at.private_key_algorithm ∷ Some at.private_key ∷ at.skipped ∷ at.public_key ∷ []

-- the version, the algorithm, the key in its OCTET STRING, an element that is skipped, and the public key under its tag
pub record PrivateKeyIn {A : Type 0} (v : PrivateKeyInfo A) (at : PrivateKeyInfoFields) (string : List ℕ) (whole : Tally) : Type 0 where
  pub between : Option (List ℕ)
  pub version : FieldIn (tagged 2 small_integers) v.version at.version string whole
  pub private_key_algorithm : FieldIn algorithm_identifier v.private_key_algorithm at.private_key_algorithm string whole
  pub private_key : FieldIn (private_by_kind (key_kind v.private_key_algorithm.algorithm)) v.private_key at.private_key string whole
  pub skipped : OptionalIn skipped between at.skipped string whole
  pub public_key : OptionalIn info_public_key v.public_key at.public_key string whole
  pub fill : Fill string (all_of string) (key_spans at)

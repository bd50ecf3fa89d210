-- What is said of algorithm identifiers beyond how they are spelled.
use Rattle.std.specs.Prelude.{◌≡◌, ℕ, ◌+◌, length, Bool, true, false, List, ◌++◌}
use Rattle.x509_keys_parts.specs.declared.algorithm_parameters.AlgorithmIdentifierParameters.{AlgorithmIdentifierParameters}
use Rattle.x509_keys_parts.specs.declared.algorithm_parameters.AlgorithmKind.{AlgorithmKind}
use Rattle.x509_der.specs.Element.{element, header}
use Rattle.x509_der.specs.Tally.{Tally}
use Rattle.x509_der.specs.Tagged.{tagged}
use Rattle.x509_der.specs.Fields.{FieldAt, Stands}
use Rattle.x509_der.specs.ObjectIdentifier.{oids}
use Rattle.x509_keys_parts.specs.AlgorithmKinds.{kind_of}
use Rattle.x509_keys_parts.specs.AlgorithmParameters.{by_kind}
use Rattle.x509_keys_parts.specs.AlgorithmIdentifier.{Algorithm, lacks_null, with_null}
use Rattle.x509_keys_parts.specs.declared.algorithm_parameters.AlgorithmIdentifierParameters.TheVariants as parameters
use Rattle.x509_keys_parts.specs.declared.algorithm_parameters.AlgorithmKind.TheVariants as kinds

-- the parameters are those that algorithms of the kind have
abbrev pub fit : {A : Type 0} → AlgorithmKind → AlgorithmIdentifierParameters A → Bool
fit kinds.Rsa parameters.Null = true
fit kinds.RsassaPss (parameters.RsassaPss p) = true
fit kinds.EcPublicKey (parameters.Ec p) = true
fit kinds.Bare parameters.None = true
fit kinds.Aes parameters.None = true
fit kinds.Aes (parameters.Aes p) = true
fit kinds.Hash parameters.Null = true
fit kind p = false

-- the fields of a spelling: the object identifier, and behind it the parameters in the shape of its kind, which are none where they are absent
pub record FieldsAt {A : Type 0} (v : Algorithm A) (string : List ℕ) (y : Tally) : Type 0 where
  pub content : List ℕ
  pub bytes : string ≡ element 48 content
  pub names : List ℕ
  pub values : List ℕ
  pub fields : content ≡ names ++ values
  pub spelled : AlgorithmIdentifierParameters A
  pub means : with_null (lacks_null (v.algorithm, spelled)) spelled ≡ v.parameters
  pub algorithm_at : FieldAt (tagged 6 oids) v.algorithm (header content) names string y
  pub parameters_at : Stands (by_kind (kind_of v.algorithm)) spelled (header content + length names) values string y

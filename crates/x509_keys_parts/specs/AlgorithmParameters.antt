-- The parameters of an algorithm identifier, which its object identifier chooses.
use Rattle.std.specs.Prelude.{ℕ, Bool, ◌||◌, List, [], Option, Some, None}
use Rattle.std.proofs.Common.{eqb}
use Rattle.x509_keys_parts.specs.declared.aes.AesParameters.{AesParameters}
use Rattle.x509_keys_parts.specs.declared.algorithm_parameters.AlgorithmIdentifierParameters.{AlgorithmIdentifierParameters}
use Rattle.x509_keys_parts.specs.declared.algorithm_parameters.AlgorithmKind.{AlgorithmKind}
use Rattle.x509_der.specs.Element.{element}
use Rattle.x509_der.specs.Shape.{Shape}
use Rattle.x509_der.specs.Optional.{optional}
use Rattle.x509_der.specs.Variant.{variant, no_variant, bare}
use Rattle.x509_keys_parts.specs.AesParameters.{aes_parameters}
use Rattle.x509_keys_parts.specs.EcParameters.{ec_parameters}
use Rattle.x509_keys_parts.specs.HashAlgorithms.{null}
use Rattle.x509_keys_parts.specs.RsassaPss.{rsassa_pss}
use Rattle.x509_keys_parts.specs.declared.algorithm_parameters.AlgorithmIdentifierParameters.TheVariants as parameters
use Rattle.x509_keys_parts.specs.declared.algorithm_parameters.AlgorithmKind.TheVariants as kinds

-- what is written of parameters
abbrev pub parameters_bytes : {A : Type 0} → AlgorithmIdentifierParameters A → List ℕ
parameters_bytes parameters.None = []
parameters_bytes parameters.Null = element 5 []
parameters_bytes (parameters.Aes p) = aes_parameters.strict p
parameters_bytes (parameters.Ec p) = ec_parameters.strict p
parameters_bytes (parameters.RsassaPss p) = rsassa_pss.strict p

-- the values: those of the types of the parameters
abbrev pub AreParameters : {A : Type 0} → AlgorithmIdentifierParameters A → Type 0
AreParameters parameters.None = Unit {0}
AreParameters parameters.Null = Unit {0}
AreParameters (parameters.Aes p) = aes_parameters.valid p
AreParameters (parameters.Ec p) = ec_parameters.valid p
AreParameters (parameters.RsassaPss p) = rsassa_pss.valid p

-- NULL that may be absent, and AES parameters that may be absent
abbrev pub if_null : {A : Type 0} → Option (Unit {0}) → AlgorithmIdentifierParameters A
if_null None = parameters.None
if_null (Some u) = parameters.Null

abbrev pub if_aes : {A : Type 0} → Option (AesParameters A) → AlgorithmIdentifierParameters A
if_aes None = parameters.None
if_aes (Some p) = parameters.Aes p

-- how the parameters of a kind are spelled: NULL OPTIONAL; RSASSA-PSS-params; EcParameters; nothing; AesParameters OPTIONAL; NULL; and of an unknown kind not at all
abbrev pub by_kind : {A : Type 0} → AlgorithmKind → Shape (AlgorithmIdentifierParameters A)
by_kind kinds.Rsa = variant if_null parameters_bytes AreParameters (optional null)
by_kind kinds.RsassaPss = variant parameters.RsassaPss parameters_bytes AreParameters rsassa_pss
by_kind kinds.EcPublicKey = variant parameters.Ec parameters_bytes AreParameters ec_parameters
by_kind kinds.Bare = variant (λ u. parameters.None) parameters_bytes AreParameters bare
by_kind kinds.Aes = variant if_aes parameters_bytes AreParameters (optional aes_parameters)
by_kind kinds.Hash = variant (λ u. parameters.Null) parameters_bytes AreParameters null
by_kind kinds.Unknown = no_variant parameters_bytes AreParameters

-- what may not follow parameters that may be absent: NULL, an OCTET STRING, a SEQUENCE
abbrev pub parameters_avoid : ℕ → Bool
parameters_avoid b = eqb b 5 || (eqb b 4 || eqb b 48)

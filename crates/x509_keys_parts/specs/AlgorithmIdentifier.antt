-- Algorithm identifiers (RFC 5280, 4.1.1.2).
use Rattle.x509_keys_parts.specs.KeyKinds.{key_kind}
use Rattle.x509_keys_parts.specs.declared.algorithm_parameters.Chosen.{Chosen}
use Rattle.std.specs.Prelude.{◌≡◌, ℕ, Bool, true, false, ◌&&◌, List, [], ◌∷◌, ◌++◌, Option, Some}
use Rattle.x509_keys_parts.specs.declared.algorithm_parameters.AlgorithmIdentifierParameters.{AlgorithmIdentifierParameters}
use Rattle.x509_keys_parts.specs.declared.algorithm_parameters.AlgorithmKind.{AlgorithmKind}
use Rattle.x509_der.specs.Types.{Deviation}
use Rattle.x509_der.specs.Element.{element}
use Rattle.x509_der.specs.Shape.{Shape}
use Rattle.x509_der.specs.Tagged.{tagged}
use Rattle.x509_der.specs.DefinedBy.{defined_by}
use Rattle.x509_der.specs.View.{Meaning, seen}
use Rattle.x509_der.specs.ObjectIdentifier.{oids, oid_content}
use Rattle.x509_keys_parts.specs.AlgorithmKinds.{kind_of}
use Rattle.x509_keys_parts.specs.AlgorithmParameters.{parameters_bytes, by_kind, parameters_avoid}
use Rattle.x509_der.specs.Types.deviation
use Rattle.x509_keys_parts.specs.declared.algorithm_parameters.AlgorithmIdentifierParameters.TheVariants as parameters
use Rattle.x509_keys_parts.specs.declared.algorithm_parameters.AlgorithmKind.TheVariants as kinds

-- the arcs, and the parameters
pub record Algorithm (A : Type 0) : Type 0 where
  pub algorithm : List ℕ
  pub parameters : AlgorithmIdentifierParameters A

abbrev pub identified : {A : Type 0} → List ℕ → AlgorithmIdentifierParameters A → Algorithm A
identified arcs p = record { algorithm = arcs; parameters = p }

-- the fields as they stand in the SEQUENCE: no parameters where they are absent
abbrev pub Fields : Type 0 → Type 0
Fields A = List ℕ × AlgorithmIdentifierParameters A

-- algorithm OBJECT IDENTIFIER, parameters ANY DEFINED BY algorithm OPTIONAL
abbrev pub inner : {A : Type 0} → Shape (Fields A)
inner = defined_by (λ c. c.0) (λ c. c.1) (tagged 6 oids) (λ arcs. by_kind (kind_of arcs)) (λ b. true) parameters_avoid

-- SEQUENCE { algorithm OBJECT IDENTIFIER, parameters ANY DEFINED BY algorithm OPTIONAL } (RFC 5280, 4.1.1.2)
abbrev pub base : {A : Type 0} → Shape (Fields A)
base = tagged 48 inner

abbrev pub is_rsa : AlgorithmKind → Bool
is_rsa kinds.Rsa = true
is_rsa kinds.RsassaPss = false
is_rsa kinds.EcPublicKey = false
is_rsa kinds.Bare = false
is_rsa kinds.Aes = false
is_rsa kinds.Hash = false
is_rsa kinds.Unknown = false

abbrev pub are_absent : {A : Type 0} → AlgorithmIdentifierParameters A → Bool
are_absent parameters.None = true
are_absent parameters.Null = false
are_absent (parameters.Aes p) = false
are_absent (parameters.Ec p) = false
are_absent (parameters.RsassaPss p) = false

-- the NULL of an RSA algorithm was left out
abbrev pub lacks_null : {A : Type 0} → Fields A → Bool
lacks_null b = is_rsa (kind_of b.0) && are_absent b.1

-- what was left out is NULL
abbrev pub with_null : {A : Type 0} → Bool → AlgorithmIdentifierParameters A → AlgorithmIdentifierParameters A
with_null true p = parameters.Null
with_null false p = p

-- the deviation of NULL that was left out, or none
abbrev pub kinds_if : Bool → List Deviation
kinds_if true = deviation.RsaParametersAbsent ∷ []
kinds_if false = []

-- what the fields mean, and the deviation in them
abbrev pub meaning : {A : Type 0} → Fields A → Option (Algorithm A × List Deviation)
meaning b = Some (identified b.0 (with_null (lacks_null b) b.1), kinds_if (lacks_null b))

-- the fields that are written
abbrev pub written_fields : {A : Type 0} → Algorithm A → Fields A
written_fields v = (v.algorithm, v.parameters)

-- the parameters are of the kind that the object identifier says, and an RSA algorithm's aren't left out
abbrev pub IsReadable : {A : Type 0} → Algorithm A → Type 0
IsReadable v = inner.readable (written_fields v) × (lacks_null (written_fields v) ≡ false)

-- what the fields mean, those that are written, and the values
abbrev pub algorithm_meaning : {A : Type 0} → Meaning (Fields A) (Algorithm A)
algorithm_meaning = record { of = meaning; back = written_fields; valid = λ v. inner.valid (written_fields v); readable = IsReadable }

-- an algorithm identifier; without the NULL of an RSA algorithm it is a deviation
abbrev pub algorithm_identifier : {A : Type 0} → Shape (Algorithm A)
algorithm_identifier = seen algorithm_meaning base

-- what is written of an algorithm identifier, also where the parameters aren't those of the algorithm
abbrev pub algorithm_bytes : {A : Type 0} → Fields A → List ℕ
algorithm_bytes b = element 48 (element 6 (oid_content b.0) ++ parameters_bytes b.1)

-- what arcs say of an algorithm
abbrev pub chosen_by : List ℕ → Chosen
chosen_by arcs = record { parameters = kind_of arcs; keys = key_kind arcs }

-- A public key and its algorithm (RFC 5280, 4.1.2.7).
use Rattle.std.specs.Prelude.{ℕ, Bool, false, List, ◌++◌}
use Rattle.std.proofs.Common.{eqb}
use Rattle.x509_keys.specs.declared.public_key.PublicKey.{PublicKey}
use Rattle.x509_keys.specs.declared.subject_public_key_info.SubjectPublicKeyInfo.{SubjectPublicKeyInfo}
use Rattle.x509_der.specs.Element.{element}
use Rattle.x509_der.specs.Shape.{Shape}
use Rattle.x509_der.specs.Tagged.{tagged}
use Rattle.x509_der.specs.DefinedBy.{defined_by}
use Rattle.x509_der.specs.Structure.{structure}
use Rattle.x509_keys_parts.specs.AlgorithmIdentifier.{Algorithm, identified, algorithm_identifier, algorithm_bytes, written_fields}
use Rattle.x509_keys_parts.specs.AlgorithmKinds.{ec_public_key_algorithm}
use Rattle.x509_keys_parts.specs.KeyKinds.{rsa_encryption, key_kind}
use Rattle.x509_keys.specs.PublicKeys.{public_by_kind, public_key_bytes}
use Rattle.x509_keys.specs.declared.rsa_public_key.RsaPublicKey.{RsaPublicKey}
use Rattle.x509_keys.specs.declared.public_key.PublicKey.TheVariants as key
use Rattle.x509_keys_parts.specs.declared.algorithm_parameters.AlgorithmIdentifierParameters.TheVariants as parameters
use Rattle.x509_keys_parts.specs.declared.ec_parameters.EcParameters.TheVariants.{NamedCurve}

-- the fields as they stand in the SEQUENCE
abbrev pub SubjectFields : Type 0 → Type 0
SubjectFields A = Algorithm A × PublicKey A

abbrev pub subject_parts : {A : Type 0} → SubjectPublicKeyInfo A → SubjectFields A
subject_parts v = (v.algorithm, v.subject_public_key)

abbrev pub subject_of : {A : Type 0} → Algorithm A → PublicKey A → SubjectPublicKeyInfo A
subject_of a k = record { algorithm = a; subject_public_key = k }

-- the key is one of the kind that the algorithm's object identifier says
abbrev pub subject_inner : {A : Type 0} → Shape (SubjectFields A)
subject_inner = defined_by (λ c. c.0) (λ c. c.1) algorithm_identifier (λ a. public_by_kind (key_kind a.algorithm)) (λ b. eqb b 3) (λ b. false)

-- SubjectPublicKeyInfo ::= SEQUENCE { algorithm AlgorithmIdentifier, subjectPublicKey BIT STRING } (RFC 5280, 4.1.2.7)
abbrev pub subject_base : {A : Type 0} → Shape (SubjectFields A)
subject_base = tagged 48 subject_inner

abbrev pub subject_public_key_info : {A : Type 0} → Shape (SubjectPublicKeyInfo A)
subject_public_key_info = structure subject_parts subject_base

-- what is written, also of a key that isn't of the algorithm's kind
abbrev pub subject_bytes : {A : Type 0} → SubjectPublicKeyInfo A → List ℕ
subject_bytes v = element 48 (algorithm_bytes (written_fields v.algorithm) ++ public_key_bytes v.subject_public_key)

-- an RSA key, with NULL behind its algorithm's identifier (RFC 3279, 2.3.1)
abbrev pub rsa_subject : {A : Type 0} → RsaPublicKey A → SubjectPublicKeyInfo A
rsa_subject k = subject_of (identified rsa_encryption parameters.Null) (key.Rsa k)

-- a point of a named curve (RFC 5480, 2.1.1 and 2.2)
abbrev pub ec_subject : {A : Type 0} → List ℕ → List Bool → SubjectPublicKeyInfo A
ec_subject curve point = subject_of (identified ec_public_key_algorithm (parameters.Ec (NamedCurve curve))) (key.Ec point)

-- a key of an algorithm without parameters (RFC 8410, 3 and 4)
abbrev pub ed_subject : {A : Type 0} → List ℕ → List Bool → SubjectPublicKeyInfo A
ed_subject algorithm bits = subject_of (identified algorithm parameters.None) (key.Ed bits)

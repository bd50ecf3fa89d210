-- A digest, and the algorithm that made it (RFC 8017, 9.2).
use Rattle.std.specs.Prelude.{ℕ, List, ◌++◌}
use Rattle.x509_der.specs.Element.{element}
use Rattle.x509_der.specs.Shape.{Shape}
use Rattle.x509_der.specs.Tagged.{tagged}
use Rattle.x509_der.specs.Join.{join}
use Rattle.x509_der.specs.PrimitiveContent.{octets}
use Rattle.x509_der.specs.Structure.{structure}
use Rattle.x509_keys_parts.specs.AlgorithmIdentifier.{Algorithm, algorithm_identifier, algorithm_bytes, written_fields}
use Rattle.x509_keys_parts.specs.declared.digest_info.DigestInfo.{DigestInfo}

abbrev pub DigestFields : Type 0 → Type 0
DigestFields A = Algorithm A × List ℕ

abbrev pub digest_info_parts : {A : Type 0} → DigestInfo A → DigestFields A
digest_info_parts v = (v.oid, v.digest)

-- digestAlgorithm AlgorithmIdentifier, digest OCTET STRING
abbrev pub digest_info_inner : {A : Type 0} → Shape (DigestFields A)
digest_info_inner = join (λ j. j.0) (λ j. j.1) algorithm_identifier (tagged 4 octets)

-- SEQUENCE { digestAlgorithm AlgorithmIdentifier, digest OCTET STRING }
abbrev pub digest_info_base : {A : Type 0} → Shape (DigestFields A)
digest_info_base = tagged 48 digest_info_inner

abbrev pub digest_info : {A : Type 0} → Shape (DigestInfo A)
digest_info = structure digest_info_parts digest_info_base

-- what is written of the content, also where the parameters of the algorithm aren't its own
abbrev pub digest_info_bytes : {A : Type 0} → DigestFields A → List ℕ
digest_info_bytes f = algorithm_bytes (written_fields f.0) ++ element 4 f.1

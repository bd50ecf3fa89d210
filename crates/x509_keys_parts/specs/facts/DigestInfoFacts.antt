-- A digest and its algorithm are told by their fields.
use Rattle.std.proofs.Common.{◌≡◌, ◌++◌, ap}
use Rattle.x509_der.specs.Element.{element}
use Rattle.x509_keys_parts.specs.AlgorithmIdentifier.{written_fields}
use Rattle.x509_keys_parts.specs.facts.AlgorithmIdentifier.{algorithm_agrees}
use Rattle.x509_keys_parts.specs.DigestInfos.{DigestFields, digest_info_parts, digest_info_inner, digest_info_bytes}
use Rattle.x509_keys_parts.specs.declared.digest_info.DigestInfo.{DigestInfo}

abbrev pub digest_info_of : {A : Type 0} → DigestFields A → DigestInfo A
digest_info_of f = record { oid = f.0; digest = f.1 }

pub digest_info_same : {A : Type 0} (v w : DigestInfo A) → digest_info_parts v ≡ digest_info_parts w → v ≡ w
digest_info_same v w e = ap digest_info_of e

pub digest_info_agrees : {A : Type 0} (f : DigestFields A) → (digest_info_inner {A = A}).strict f ≡ digest_info_bytes f
digest_info_agrees f = ap (λ x. x ++ element 4 f.1) (algorithm_agrees (written_fields f.0))

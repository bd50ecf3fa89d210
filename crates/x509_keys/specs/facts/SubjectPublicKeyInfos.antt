-- Public keys with the same algorithm and key are the same, and what is written of one.
use Rattle.std.proofs.Common.{◌≡◌, ap}
use Rattle.x509_keys.specs.declared.subject_public_key_info.SubjectPublicKeyInfo.{SubjectPublicKeyInfo}
use Rattle.x509_der.specs.Element.{element}
use Rattle.x509_der.specs.facts.Lists.{same_append}
use Rattle.x509_keys_parts.specs.AlgorithmIdentifier.{written_fields}
use Rattle.x509_keys_parts.specs.facts.AlgorithmIdentifier.{algorithm_agrees}
use Rattle.x509_keys_parts.specs.KeyKinds.{key_kind}
use Rattle.x509_keys.specs.SubjectPublicKeyInfos.{SubjectFields, subject_parts, subject_public_key_info, subject_bytes}
use Rattle.x509_keys.specs.facts.PublicKeys.{public_agrees}

abbrev subject_from : {A : Type 0} → SubjectFields A → SubjectPublicKeyInfo A
subject_from f = record { algorithm = f.0; subject_public_key = f.1 }

pub subject_same : {A : Type 0} (v w : SubjectPublicKeyInfo A) → subject_parts v ≡ subject_parts w → v ≡ w
subject_same v w e = ap subject_from e

pub subject_agrees : {A : Type 0} (v : SubjectPublicKeyInfo A) → subject_public_key_info.strict v ≡ subject_bytes v
subject_agrees v = ap (λ x. element 48 x) (same_append (algorithm_agrees (written_fields v.algorithm)) (public_agrees (key_kind v.algorithm.algorithm) v.subject_public_key))

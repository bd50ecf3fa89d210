-- Which keys with their algorithms are read back as they were.
use Rattle.std.proofs.Common.{◌≡◌, Bool, true, ◌↔◌, List, Option, None, Some}
use mathlib.Core.Bool.{true≢false}
use Rattle.x509_der.specs.Shape.{Shape}
use Rattle.x509_der.specs.Optional.{optional}
use Rattle.x509_keys_parts.specs.AlgorithmIdentifier.{algorithm_identifier}
use Rattle.x509_keys.specs.declared.ec_private_key.ECPrivateKey.{ECPrivateKey}
use Rattle.x509_keys.specs.declared.private_key_info.PrivateKeyInfo.{PrivateKeyInfo}
use Rattle.x509_keys.specs.EcPrivateKeys.{is_one, ec_curve, ec_point, ec_private_key}
use Rattle.x509_keys_parts.specs.KeyKinds.{rsa_encryption, key_kind}
use Rattle.x509_keys.specs.PrivateKeyInfos.{is_version, info_public_key, private_key_info}
use Rattle.x509_keys.specs.PrivateKeyValues.{private_by_kind}
use Rattle.x509_keys.specs.SubjectPublicKeyInfos.{subject_public_key_info, ed_subject}

-- a field that may be absent is readable where each of its values is
any_there : {V : Type 0} (s : Shape V) → ((v : V) → s.readable v) → (o : Option V) → (optional s).readable o
any_there s r None = tt
any_there s r (Some v) = r v

-- an RSA algorithm without NULL isn't readable
pub bare_rsa_unread : {A : Type 0} (bits : List Bool) → (subject_public_key_info {A = A}).readable (ed_subject rsa_encryption bits) → ⊥
bare_rsa_unread bits r = true≢false r.0.1

pub info_readable : {A : Type 0} (v : PrivateKeyInfo A) → private_key_info.readable v ↔ ((is_version v.version ≡ true) × (algorithm_identifier.readable v.private_key_algorithm × (private_by_kind (key_kind v.private_key_algorithm.algorithm)).readable v.private_key))
info_readable v = (λ r. (r.0, r.1.1.0), λ r. (r.0, (tt, (r.1, (tt, any_there info_public_key (λ b. tt) v.public_key)))))

pub ec_key_readable : {A : Type 0} (v : ECPrivateKey A) → ec_private_key.readable v ↔ (is_one v.version ≡ true)
ec_key_readable v = (λ r. r.0, λ r. (r, (tt, (tt, (any_there ec_curve (λ c. tt) v.parameters, any_there ec_point (λ b. tt) v.public_key)))))

-- Which keys an algorithm has, by its object identifier.
use Rattle.std.specs.Prelude.{ℕ, if◌then◌else◌, List, [], ◌∷◌}
use Rattle.std.specs.List.{list_any}
use Rattle.x509_der.specs.ObjectIdentifier.{is_arcs}
use Rattle.x509_keys_parts.specs.AlgorithmKinds.{ec_public_key_algorithm}
use Rattle.x509_keys_parts.specs.declared.key_kind.KeyKind.{KeyKind}
use Rattle.x509_keys_parts.specs.declared.key_kind.KeyKind.TheVariants as kinds

-- rsaEncryption (RFC 8017, A.1)
abbrev pub rsa_encryption : List ℕ
rsa_encryption = 1 ∷ 2 ∷ 840 ∷ 113549 ∷ 1 ∷ 1 ∷ 1 ∷ []

-- Ed25519, X25519, Ed448 and X448 (RFC 8410, 3)
abbrev pub ed_algorithms : List (List ℕ)
ed_algorithms =
    (1 ∷ 3 ∷ 101 ∷ 112 ∷ [])
    ∷ (1 ∷ 3 ∷ 101 ∷ 110 ∷ [])
    ∷ (1 ∷ 3 ∷ 101 ∷ 113 ∷ [])
    ∷ (1 ∷ 3 ∷ 101 ∷ 111 ∷ [])
    ∷ []

-- ML-DSA-44, ML-DSA-65 and ML-DSA-87 (RFC 9881, 2)
abbrev pub mldsa_algorithms : List (List ℕ)
mldsa_algorithms =
    (2 ∷ 16 ∷ 840 ∷ 1 ∷ 101 ∷ 3 ∷ 4 ∷ 3 ∷ 17 ∷ [])
    ∷ (2 ∷ 16 ∷ 840 ∷ 1 ∷ 101 ∷ 3 ∷ 4 ∷ 3 ∷ 18 ∷ [])
    ∷ (2 ∷ 16 ∷ 840 ∷ 1 ∷ 101 ∷ 3 ∷ 4 ∷ 3 ∷ 19 ∷ [])
    ∷ []

-- the kind that arcs say; keys of no other kind are read
abbrev pub key_kind : List ℕ → KeyKind
key_kind arcs =
    if is_arcs arcs rsa_encryption then kinds.Rsa
    else if is_arcs arcs ec_public_key_algorithm then kinds.Ec
    else if list_any (is_arcs arcs) ed_algorithms then kinds.Ed
    else if list_any (is_arcs arcs) mldsa_algorithms then kinds.Mldsa
    else kinds.Unknown

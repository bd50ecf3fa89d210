-- Which parameters an algorithm has, by its object identifier.
use Rattle.std.specs.Prelude.{ℕ, ◌||◌, if◌then◌else◌, List, [], ◌∷◌}
use Rattle.std.specs.List.{list_any}
use Rattle.x509_der.specs.ObjectIdentifier.{is_arcs, is_strictly_under}
use Rattle.x509_keys_parts.specs.declared.algorithm_parameters.AlgorithmKind.{AlgorithmKind}
use Rattle.x509_keys_parts.specs.declared.algorithm_parameters.AlgorithmKind.TheVariants as kinds

-- rsaEncryption, and RSASSA-PKCS1-v1_5 with SHA-1, SHA-224, SHA-256, SHA-384 and SHA-512 (RFC 8017, A.1 and A.2.4),
-- and with SHA3-224, SHA3-256, SHA3-384 and SHA3-512 (NIST, Computer Security Objects Register, sigAlgs)
abbrev pub rsa_algorithms : List (List ℕ)
rsa_algorithms =
    (1 ∷ 2 ∷ 840 ∷ 113549 ∷ 1 ∷ 1 ∷ 1 ∷ [])
    ∷ (1 ∷ 2 ∷ 840 ∷ 113549 ∷ 1 ∷ 1 ∷ 5 ∷ [])
    ∷ (1 ∷ 2 ∷ 840 ∷ 113549 ∷ 1 ∷ 1 ∷ 14 ∷ [])
    ∷ (1 ∷ 2 ∷ 840 ∷ 113549 ∷ 1 ∷ 1 ∷ 11 ∷ [])
    ∷ (1 ∷ 2 ∷ 840 ∷ 113549 ∷ 1 ∷ 1 ∷ 12 ∷ [])
    ∷ (1 ∷ 2 ∷ 840 ∷ 113549 ∷ 1 ∷ 1 ∷ 13 ∷ [])
    ∷ (2 ∷ 16 ∷ 840 ∷ 1 ∷ 101 ∷ 3 ∷ 4 ∷ 3 ∷ 13 ∷ [])
    ∷ (2 ∷ 16 ∷ 840 ∷ 1 ∷ 101 ∷ 3 ∷ 4 ∷ 3 ∷ 14 ∷ [])
    ∷ (2 ∷ 16 ∷ 840 ∷ 1 ∷ 101 ∷ 3 ∷ 4 ∷ 3 ∷ 15 ∷ [])
    ∷ (2 ∷ 16 ∷ 840 ∷ 1 ∷ 101 ∷ 3 ∷ 4 ∷ 3 ∷ 16 ∷ [])
    ∷ []

-- id-RSASSA-PSS (RFC 8017, A.2.3)
abbrev pub rsassa_pss_algorithm : List ℕ
rsassa_pss_algorithm = 1 ∷ 2 ∷ 840 ∷ 113549 ∷ 1 ∷ 1 ∷ 10 ∷ []

-- id-ecPublicKey (RFC 5480, 2.1.1)
abbrev pub ec_public_key_algorithm : List ℕ
ec_public_key_algorithm = 1 ∷ 2 ∷ 840 ∷ 10045 ∷ 2 ∷ 1 ∷ []

-- ECDSA with SHA-256, SHA-384 and SHA-512 (RFC 5758, 3.2), and with SHA3-224, SHA3-256, SHA3-384 and SHA3-512 (NIST, the same);
-- Ed25519, Ed448, X25519 and X448 (RFC 8410, 3); ML-DSA-44, ML-DSA-65 and ML-DSA-87 (FIPS 204; NIST, the same);
-- DSA with SHA-1 (RFC 3279, 2.2.2)
abbrev pub bare_algorithms : List (List ℕ)
bare_algorithms =
    (1 ∷ 2 ∷ 840 ∷ 10045 ∷ 4 ∷ 3 ∷ 2 ∷ [])
    ∷ (1 ∷ 2 ∷ 840 ∷ 10045 ∷ 4 ∷ 3 ∷ 3 ∷ [])
    ∷ (1 ∷ 2 ∷ 840 ∷ 10045 ∷ 4 ∷ 3 ∷ 4 ∷ [])
    ∷ (2 ∷ 16 ∷ 840 ∷ 1 ∷ 101 ∷ 3 ∷ 4 ∷ 3 ∷ 9 ∷ [])
    ∷ (2 ∷ 16 ∷ 840 ∷ 1 ∷ 101 ∷ 3 ∷ 4 ∷ 3 ∷ 10 ∷ [])
    ∷ (2 ∷ 16 ∷ 840 ∷ 1 ∷ 101 ∷ 3 ∷ 4 ∷ 3 ∷ 11 ∷ [])
    ∷ (2 ∷ 16 ∷ 840 ∷ 1 ∷ 101 ∷ 3 ∷ 4 ∷ 3 ∷ 12 ∷ [])
    ∷ (1 ∷ 3 ∷ 101 ∷ 112 ∷ [])
    ∷ (1 ∷ 3 ∷ 101 ∷ 113 ∷ [])
    ∷ (1 ∷ 3 ∷ 101 ∷ 110 ∷ [])
    ∷ (1 ∷ 3 ∷ 101 ∷ 111 ∷ [])
    ∷ (2 ∷ 16 ∷ 840 ∷ 1 ∷ 101 ∷ 3 ∷ 4 ∷ 3 ∷ 17 ∷ [])
    ∷ (2 ∷ 16 ∷ 840 ∷ 1 ∷ 101 ∷ 3 ∷ 4 ∷ 3 ∷ 18 ∷ [])
    ∷ (2 ∷ 16 ∷ 840 ∷ 1 ∷ 101 ∷ 3 ∷ 4 ∷ 3 ∷ 19 ∷ [])
    ∷ (1 ∷ 2 ∷ 840 ∷ 10040 ∷ 4 ∷ 3 ∷ [])
    ∷ []

-- what stands in front of the identifiers of AES (NIST, the same register, aes)
abbrev pub aes_front : List ℕ
aes_front = 2 ∷ 16 ∷ 840 ∷ 1 ∷ 101 ∷ 3 ∷ 4 ∷ 1 ∷ []

-- and of NIST's hash functions (hashAlgs)
abbrev pub hash_front : List ℕ
hash_front = 2 ∷ 16 ∷ 840 ∷ 1 ∷ 101 ∷ 3 ∷ 4 ∷ 2 ∷ []

-- id-sha1 (RFC 8017, B.1)
abbrev pub sha1_algorithm : List ℕ
sha1_algorithm = 1 ∷ 3 ∷ 14 ∷ 3 ∷ 2 ∷ 26 ∷ []

-- the kind that arcs say; algorithms of no other kind are read
abbrev pub kind_of : List ℕ → AlgorithmKind
kind_of arcs =
    if list_any (is_arcs arcs) rsa_algorithms then kinds.Rsa
    else if is_arcs arcs rsassa_pss_algorithm then kinds.RsassaPss
    else if is_arcs arcs ec_public_key_algorithm then kinds.EcPublicKey
    else if list_any (is_arcs arcs) bare_algorithms then kinds.Bare
    else if is_strictly_under aes_front arcs then kinds.Aes
    else if is_strictly_under hash_front arcs || is_arcs arcs sha1_algorithm then kinds.Hash
    else kinds.Unknown

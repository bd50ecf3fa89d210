-- The hash functions over which signatures are made, by the object identifiers of the algorithms.
use Rattle.std.specs.Prelude.{ℕ, if◌then◌else◌, List, [], ◌∷◌, Option, Some, None}
use Rattle.x509_der.specs.ObjectIdentifier.{is_arcs}
use Rattle.x509_keys.specs.Types.{AlgorithmIdentifierParameters, HashAlgorithm}
use Rattle.x509_keys.specs.Types.algorithm_identifier_parameters as parameters
use Rattle.x509_keys.specs.Types.hash_algorithm as hash
use Rattle.x509_keys.specs.AlgorithmIdentifier.{Algorithm}
use Rattle.x509_flat_values.specs.declared.digests.Digest.{Digest}
use Rattle.x509_flat_values.specs.declared.digests.Digest.TheVariants as digest

abbrev pub digest_number : Digest → ℕ
digest_number digest.None = 0
digest_number digest.Sha1 = 1
digest_number digest.Sha224 = 2
digest_number digest.Sha256 = 3
digest_number digest.Sha384 = 4
digest_number digest.Sha512 = 5
digest_number digest.Sha3With224 = 6
digest_number digest.Sha3With256 = 7
digest_number digest.Sha3With384 = 8
digest_number digest.Sha3With512 = 9

-- joint-iso-itu-t(2) country(16) us(840) organization(1) gov(101) csor(3) nistAlgorithm(4) sigAlgs(3), and one more: ECDSA and RSASSA-PKCS1-v1_5 with SHA-3 (NIST, Computer Security Objects Register)
abbrev pub nist_signature : ℕ → List ℕ
nist_signature n = 2 ∷ 16 ∷ 840 ∷ 1 ∷ 101 ∷ 3 ∷ 4 ∷ 3 ∷ n ∷ []

abbrev pub sha3_by : List ℕ → Digest
sha3_by arcs =
    if is_arcs arcs (nist_signature 9) then digest.Sha3With224
    else if is_arcs arcs (nist_signature 10) then digest.Sha3With256
    else if is_arcs arcs (nist_signature 11) then digest.Sha3With384
    else if is_arcs arcs (nist_signature 12) then digest.Sha3With512
    else if is_arcs arcs (nist_signature 13) then digest.Sha3With224
    else if is_arcs arcs (nist_signature 14) then digest.Sha3With256
    else if is_arcs arcs (nist_signature 15) then digest.Sha3With384
    else if is_arcs arcs (nist_signature 16) then digest.Sha3With512
    else digest.None

-- RSASSA-PKCS1-v1_5 (RFC 8017, A.2.4: pkcs-1 11, 12, 13, 5 and 14), ECDSA (RFC 5758, 3.2), DSA with SHA-1 (RFC 3279, 2.2.2)
abbrev pub digest_by : List ℕ → Digest
digest_by arcs =
    if is_arcs arcs (1 ∷ 2 ∷ 840 ∷ 113549 ∷ 1 ∷ 1 ∷ 11 ∷ []) then digest.Sha256
    else if is_arcs arcs (1 ∷ 2 ∷ 840 ∷ 10045 ∷ 4 ∷ 3 ∷ 2 ∷ []) then digest.Sha256
    else if is_arcs arcs (1 ∷ 2 ∷ 840 ∷ 10045 ∷ 4 ∷ 3 ∷ 3 ∷ []) then digest.Sha384
    else if is_arcs arcs (1 ∷ 2 ∷ 840 ∷ 10045 ∷ 4 ∷ 3 ∷ 4 ∷ []) then digest.Sha512
    else if is_arcs arcs (1 ∷ 2 ∷ 840 ∷ 113549 ∷ 1 ∷ 1 ∷ 12 ∷ []) then digest.Sha384
    else if is_arcs arcs (1 ∷ 2 ∷ 840 ∷ 113549 ∷ 1 ∷ 1 ∷ 13 ∷ []) then digest.Sha512
    else if is_arcs arcs (1 ∷ 2 ∷ 840 ∷ 113549 ∷ 1 ∷ 1 ∷ 5 ∷ []) then digest.Sha1
    else if is_arcs arcs (1 ∷ 2 ∷ 840 ∷ 113549 ∷ 1 ∷ 1 ∷ 14 ∷ []) then digest.Sha224
    else if is_arcs arcs (1 ∷ 2 ∷ 840 ∷ 10040 ∷ 4 ∷ 3 ∷ []) then digest.Sha1
    else sha3_by arcs

-- the digest that a hash function is
abbrev pub digest_of_hash : Option HashAlgorithm → Digest
digest_of_hash None = digest.None
digest_of_hash (Some hash.SHA224) = digest.Sha224
digest_of_hash (Some hash.SHA256) = digest.Sha256
digest_of_hash (Some hash.SHA384) = digest.Sha384
digest_of_hash (Some hash.SHA512) = digest.Sha512
digest_of_hash (Some hash.SHA3_224) = digest.Sha3With224
digest_of_hash (Some hash.SHA3_256) = digest.Sha3With256
digest_of_hash (Some hash.SHA3_384) = digest.Sha3With384
digest_of_hash (Some hash.SHA3_512) = digest.Sha3With512

-- RSASSA-PSS has its hash function among its parameters (RFC 8017, A.2.3); of other algorithms the identifier says it
abbrev pub by_parameters : {A : Type 0} → Digest → AlgorithmIdentifierParameters A → Digest
by_parameters own parameters.None = own
by_parameters own parameters.Null = own
by_parameters own (parameters.Aes p) = own
by_parameters own (parameters.Ec p) = own
by_parameters own (parameters.RsassaPss p) = digest_of_hash (Some p.hash_algorithm)

abbrev pub digest_of : {A : Type 0} → Algorithm A → Digest
digest_of v = by_parameters (digest_by v.algorithm) v.parameters

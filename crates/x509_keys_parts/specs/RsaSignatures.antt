-- RSA signatures with a hash function, where the maker by hash function knows them.
use Rattle.std.specs.Prelude.{ℕ, List, [], ◌∷◌, Option, Some, None}
use Rattle.x509_keys_parts.specs.declared.sha_variant.ShaVariant.{ShaVariant}
use Rattle.x509_keys_parts.specs.declared.sha_variant.ShaVariant.TheVariants as sha

-- RSASSA-PKCS1-v1_5 with SHA-2 (RFC 8017, A.2.4), and with SHA3-384 and SHA3-512 (NIST, Computer Security Objects Register, sigAlgs)
abbrev pub rsa_with_sha : ShaVariant → Option (List ℕ)
rsa_with_sha sha.MD5 = None
rsa_with_sha sha.SHA1 = None
rsa_with_sha sha.SHA2_224 = Some (1 ∷ 2 ∷ 840 ∷ 113549 ∷ 1 ∷ 1 ∷ 14 ∷ [])
rsa_with_sha sha.SHA2_256 = Some (1 ∷ 2 ∷ 840 ∷ 113549 ∷ 1 ∷ 1 ∷ 11 ∷ [])
rsa_with_sha sha.SHA2_384 = Some (1 ∷ 2 ∷ 840 ∷ 113549 ∷ 1 ∷ 1 ∷ 12 ∷ [])
rsa_with_sha sha.SHA2_512 = Some (1 ∷ 2 ∷ 840 ∷ 113549 ∷ 1 ∷ 1 ∷ 13 ∷ [])
rsa_with_sha sha.SHA2_512_224 = None
rsa_with_sha sha.SHA2_512_256 = None
rsa_with_sha sha.SHA3_224 = None
rsa_with_sha sha.SHA3_256 = None
rsa_with_sha sha.SHA3_384 = Some (2 ∷ 16 ∷ 840 ∷ 1 ∷ 101 ∷ 3 ∷ 4 ∷ 3 ∷ 15 ∷ [])
rsa_with_sha sha.SHA3_512 = Some (2 ∷ 16 ∷ 840 ∷ 1 ∷ 101 ∷ 3 ∷ 4 ∷ 3 ∷ 16 ∷ [])
rsa_with_sha sha.SHAKE128 = None
rsa_with_sha sha.SHAKE256 = None

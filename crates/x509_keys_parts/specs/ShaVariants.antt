-- Hash functions by name, and the object identifiers that name them.
use Rattle.std.specs.Prelude.{ℕ, List, [], ◌∷◌, Option, codes}
use Rattle.x509_der.specs.Named.{named}
use Rattle.x509_keys_parts.specs.HashAlgorithms.{nist_hash}
use Rattle.x509_keys_parts.specs.declared.sha_variant.ShaVariant.{ShaVariant}
use Rattle.x509_keys_parts.specs.declared.sha_variant.ShaVariant.TheVariants as sha

-- MD5, SHA-1 and SHA-2 (RFC 8017, B.1), SHA-3 (RFC 9688, 2) and SHAKE (RFC 8702, 3.1)
abbrev pub sha_arcs : ShaVariant → List ℕ
sha_arcs sha.MD5 = 1 ∷ 2 ∷ 840 ∷ 113549 ∷ 2 ∷ 5 ∷ []
sha_arcs sha.SHA1 = 1 ∷ 3 ∷ 14 ∷ 3 ∷ 2 ∷ 26 ∷ []
sha_arcs sha.SHA2_224 = nist_hash 4
sha_arcs sha.SHA2_256 = nist_hash 1
sha_arcs sha.SHA2_384 = nist_hash 2
sha_arcs sha.SHA2_512 = nist_hash 3
sha_arcs sha.SHA2_512_224 = nist_hash 5
sha_arcs sha.SHA2_512_256 = nist_hash 6
sha_arcs sha.SHA3_224 = nist_hash 7
sha_arcs sha.SHA3_256 = nist_hash 8
sha_arcs sha.SHA3_384 = nist_hash 9
sha_arcs sha.SHA3_512 = nist_hash 10
sha_arcs sha.SHAKE128 = nist_hash 11
sha_arcs sha.SHAKE256 = nist_hash 12

abbrev pub shas : List ShaVariant
shas =
    sha.MD5 ∷ sha.SHA1 ∷ sha.SHA2_224 ∷ sha.SHA2_256 ∷ sha.SHA2_384 ∷ sha.SHA2_512 ∷ sha.SHA2_512_224 ∷ sha.SHA2_512_256
    ∷ sha.SHA3_224 ∷ sha.SHA3_256 ∷ sha.SHA3_384 ∷ sha.SHA3_512 ∷ sha.SHAKE128 ∷ sha.SHAKE256 ∷ []

-- the hash function that arcs name, if any
abbrev pub sha_of : List ℕ → Option ShaVariant
sha_of arcs = named sha_arcs shas arcs

-- how each is spelled
abbrev pub sha_name : ShaVariant → List ℕ
sha_name sha.MD5 = codes "MD5"
sha_name sha.SHA1 = codes "SHA1"
sha_name sha.SHA2_224 = codes "SHA2_224"
sha_name sha.SHA2_256 = codes "SHA2_256"
sha_name sha.SHA2_384 = codes "SHA2_384"
sha_name sha.SHA2_512 = codes "SHA2_512"
sha_name sha.SHA2_512_224 = codes "SHA2_512_224"
sha_name sha.SHA2_512_256 = codes "SHA2_512_256"
sha_name sha.SHA3_224 = codes "SHA3_224"
sha_name sha.SHA3_256 = codes "SHA3_256"
sha_name sha.SHA3_384 = codes "SHA3_384"
sha_name sha.SHA3_512 = codes "SHA3_512"
sha_name sha.SHAKE128 = codes "SHAKE128"
sha_name sha.SHAKE256 = codes "SHAKE256"

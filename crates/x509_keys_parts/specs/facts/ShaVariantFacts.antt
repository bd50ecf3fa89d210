-- Each hash function is named by its own arcs, and by no others.
use Rattle.std.proofs.Common.{◌≡◌, ℕ, List, [], ◌∷◌, Some, refl, arith, lit<}
use Rattle.x509_der.specs.facts.Named.{named_is}
use Rattle.x509_der.specs.ObjectIdentifier.{IsLawful}
use Rattle.x509_der.specs.facts.ArcLists.{no_arcs, and_arc}
use Rattle.x509_keys_parts.specs.facts.HashAlgorithmFacts.{nist_lawful}
use Rattle.x509_keys_parts.specs.ShaVariants.{sha_arcs, shas, sha_of}
use Rattle.x509_keys_parts.specs.declared.sha_variant.ShaVariant.{ShaVariant}
use Rattle.x509_keys_parts.specs.declared.sha_variant.ShaVariant.TheVariants as sha

pub sha_there : (v : ShaVariant) → sha_of (sha_arcs v) ≡ Some v
sha_there sha.MD5 = refl
sha_there sha.SHA1 = refl
sha_there sha.SHA2_224 = refl
sha_there sha.SHA2_256 = refl
sha_there sha.SHA2_384 = refl
sha_there sha.SHA2_512 = refl
sha_there sha.SHA2_512_224 = refl
sha_there sha.SHA2_512_256 = refl
sha_there sha.SHA3_224 = refl
sha_there sha.SHA3_256 = refl
sha_there sha.SHA3_384 = refl
sha_there sha.SHA3_512 = refl
sha_there sha.SHAKE128 = refl
sha_there sha.SHAKE256 = refl

pub sha_again : (arcs : List ℕ) (v : ShaVariant) → sha_of arcs ≡ Some v → arcs ≡ sha_arcs v
sha_again arcs v e = named_is sha_arcs shas arcs v e

-- the arcs of each are an object identifier's
pub sha_lawful : (v : ShaVariant) → IsLawful (sha_arcs v)
sha_lawful sha.MD5 = record { len = omega arith; first = omega arith; second = λ l. omega arith; both = omega arith; each = and_arc 1 (2 ∷ 840 ∷ 113549 ∷ 2 ∷ 5 ∷ []) (lit< tt) (and_arc 2 (840 ∷ 113549 ∷ 2 ∷ 5 ∷ []) (lit< tt) (and_arc 840 (113549 ∷ 2 ∷ 5 ∷ []) (lit< tt) (and_arc 113549 (2 ∷ 5 ∷ []) (lit< tt) (and_arc 2 (5 ∷ []) (lit< tt) (and_arc 5 [] (lit< tt) no_arcs))))) }
sha_lawful sha.SHA1 = record { len = omega arith; first = omega arith; second = λ l. omega arith; both = omega arith; each = and_arc 1 (3 ∷ 14 ∷ 3 ∷ 2 ∷ 26 ∷ []) (lit< tt) (and_arc 3 (14 ∷ 3 ∷ 2 ∷ 26 ∷ []) (lit< tt) (and_arc 14 (3 ∷ 2 ∷ 26 ∷ []) (lit< tt) (and_arc 3 (2 ∷ 26 ∷ []) (lit< tt) (and_arc 2 (26 ∷ []) (lit< tt) (and_arc 26 [] (lit< tt) no_arcs))))) }
sha_lawful sha.SHA2_224 = nist_lawful 4 (lit< tt)
sha_lawful sha.SHA2_256 = nist_lawful 1 (lit< tt)
sha_lawful sha.SHA2_384 = nist_lawful 2 (lit< tt)
sha_lawful sha.SHA2_512 = nist_lawful 3 (lit< tt)
sha_lawful sha.SHA2_512_224 = nist_lawful 5 (lit< tt)
sha_lawful sha.SHA2_512_256 = nist_lawful 6 (lit< tt)
sha_lawful sha.SHA3_224 = nist_lawful 7 (lit< tt)
sha_lawful sha.SHA3_256 = nist_lawful 8 (lit< tt)
sha_lawful sha.SHA3_384 = nist_lawful 9 (lit< tt)
sha_lawful sha.SHA3_512 = nist_lawful 10 (lit< tt)
sha_lawful sha.SHAKE128 = nist_lawful 11 (lit< tt)
sha_lawful sha.SHAKE256 = nist_lawful 12 (lit< tt)

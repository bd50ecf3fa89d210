-- Kinds of algorithms are told by the contents of their object identifiers.
use Rattle.std.proofs.Common.{◌≡◌, ◌∙◌, ◌&&◌, refl, sym, List, ℕ, Bool, true, false}
use Rattle.std.specs.Prelude.{IsTrue, ◌||◌, if◌then◌else◌, nat_eq}
use Rattle.std.specs.List.{list_any}
use Rattle.std.specs.Cmp.Lexicographic.{pointwise, bytes_decides}
use mathlib.Core.Bool.{true≢false}
use Rattle.x509_der.specs.ObjectIdentifier.{IsLawful, arcs_spelled, oid_content, is_arcs, is_strictly_under}
use Rattle.x509_der.specs.facts.OidContent.{content_test}
use Rattle.x509_keys_parts.specs.AlgorithmIdentifier.{is_rsa, are_absent, lacks_null}
use Rattle.x509_keys_parts.specs.AlgorithmKinds.{rsa_algorithms, rsassa_pss_algorithm, ec_public_key_algorithm, bare_algorithms, aes_front, hash_front, sha1_algorithm, kind_of}
use Rattle.x509_keys_parts.specs.declared.algorithm_parameters.AlgorithmIdentifierParameters.{AlgorithmIdentifierParameters}
use Rattle.x509_keys_parts.specs.declared.algorithm_parameters.AlgorithmKind.TheVariants as kinds

told_apart : (p d : List ℕ) (t : Bool) → pointwise nat_eq p d ≡ t → (p ≡ d → IsTrue false) → false ≡ t
told_apart p d true e h = let f : IsTrue false = h ((bytes_decides p d).0 e) in cc
told_apart p d false e h = refl

-- another content is that of other arcs
pub other_content : (v d : List ℕ) → IsLawful v → (oid_content v ≡ d → IsTrue false) → false ≡ is_arcs v (arcs_spelled d)
other_content v d l h = told_apart (oid_content v) d (pointwise nat_eq (oid_content v) d) refl h ∙ content_test v d l

-- arcs whose content is another are others
pub other_arcs : (arcs spelled own : List ℕ) (t : Bool) → t ≡ is_arcs arcs spelled → t ≡ false → spelled ≡ own → arcs ≡ own → IsTrue false
other_arcs arcs spelled own t e f s h = absurd (true≢false (sym ((bytes_decides arcs spelled).1 (h ∙ sym s)) ∙ sym e ∙ f))

-- the kind is that of RSA algorithms where the first test is passed
kind_test : (r p e b x h : Bool) → is_rsa (if r then kinds.Rsa else if p then kinds.RsassaPss else if e then kinds.EcPublicKey else if b then kinds.Bare else if x then kinds.Aes else if h then kinds.Hash else kinds.Unknown) ≡ r
kind_test true p e b x h = refl
kind_test false true e b x h = refl
kind_test false false true b x h = refl
kind_test false false false true x h = refl
kind_test false false false false true h = refl
kind_test false false false false false true = refl
kind_test false false false false false false = refl

rsa_told : (arcs : List ℕ) → is_rsa (kind_of arcs) ≡ list_any (is_arcs arcs) rsa_algorithms
rsa_told arcs =
    kind_test (list_any (is_arcs arcs) rsa_algorithms) (is_arcs arcs rsassa_pss_algorithm) (is_arcs arcs ec_public_key_algorithm) (list_any (is_arcs arcs) bare_algorithms) (is_strictly_under aes_front arcs) (is_strictly_under hash_front arcs || is_arcs arcs sha1_algorithm)

and_true : (a b : Bool) → b ≡ true → (a && b) ≡ a
and_true true b e = e
and_true false b e = refl

-- where parameters are absent, NULL was left out of an RSA algorithm
pub lacks_told : {A : Type 0} (arcs : List ℕ) (p : AlgorithmIdentifierParameters A) (t : Bool) → t ≡ list_any (is_arcs arcs) rsa_algorithms → are_absent p ≡ true → t ≡ lacks_null (arcs, p)
lacks_told arcs p t e h = e ∙ sym (rsa_told arcs) ∙ sym (and_true (is_rsa (kind_of arcs)) (are_absent p) h)

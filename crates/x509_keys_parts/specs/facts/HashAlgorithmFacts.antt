-- What identifies a hash function keeps the laws, and so does an algorithm identifier whose NULL may be absent.
use Rattle.std.proofs.Common.{◌≡◌, ℕ, zero, suc, ◌<◌, ◌≤◌, ◌^◌, List, [], ◌∷◌, length, Option, Some, None, refl, ap, arith, lit<}
use Rattle.std.specs.Prelude.{slice_index}
use Rattle.x509_der.specs.facts.Lists.{same_pair}
use Rattle.x509_der.specs.Types.{Deviation}
use Rattle.x509_der.specs.Element.{element, digits}
use Rattle.x509_der.specs.ObjectIdentifier.{IsLawful, arcs_spelled, numbers_from, oids, septets, high}
use Rattle.x509_der.specs.laws.View.{some_one}
use Rattle.x509_der.specs.Shape.{Lawful}
use Rattle.x509_der.specs.laws.Meaning.{IsMeaning, tagged_markable}
use Rattle.x509_der.specs.laws.Tagged.{tagged_lawful}
use Rattle.x509_der.specs.facts.ObjectIdentifier.{oid_lawful}
use Rattle.x509_der.specs.View.{IsSeen}
use Rattle.x509_der.specs.facts.Partly.{partly_is, partly_seen}
use Rattle.x509_der.specs.facts.Named.{named_is}
use Rattle.x509_keys_parts.specs.HashAlgorithms.{nist_hash, hash_number, hash_arcs, hashes, hash_of, hash_name_base, hash_name_meaning, hash_name, HashFields, hash_base, null_kinds, hash_means, hash_fields, hash_meaning}
use Rattle.x509_keys_parts.specs.declared.hash_algorithm.HashAlgorithm.{HashAlgorithm}
use Rattle.x509_keys_parts.specs.declared.hash_algorithm.HashAlgorithm.TheVariants as hash

pub hash_there : (h : HashAlgorithm) → hash_of (hash_arcs h) ≡ Some h
hash_there hash.SHA224 = refl
hash_there hash.SHA256 = refl
hash_there hash.SHA384 = refl
hash_there hash.SHA512 = refl
hash_there hash.SHA3_224 = refl
hash_there hash.SHA3_256 = refl
hash_there hash.SHA3_384 = refl
hash_there hash.SHA3_512 = refl

pub hash_again : (arcs : List ℕ) (h : HashAlgorithm) → hash_of arcs ≡ Some h → arcs ≡ hash_arcs h
hash_again arcs h e = named_is hash_arcs hashes arcs h e

pub hash_name_is : IsMeaning hash_name_meaning hash_name_base
hash_name_is = partly_is hash_of hash_arcs hash_name_base hash_there hash_again

pub hash_name_keeps : Lawful hash_name_base × IsSeen hash_name_meaning hash_name_base
hash_name_keeps = (tagged_lawful 6 oids oid_lawful, partly_seen hash_of hash_arcs hash_name_base hash_there hash_again (tagged_markable 6 oids oid_lawful))

last_arc : (n k : ℕ) → n < 128 → k < 1 → slice_index (n ∷ []) k < 2 ^ 64
last_arc n zero h l = omega arith
last_arc n (suc k) h l = omega arith

each_arc : (n k : ℕ) → n < 128 → k < 9 → slice_index (nist_hash n) k < 2 ^ 64
each_arc n zero h l = omega arith
each_arc n (suc zero) h l = omega arith
each_arc n (suc (suc zero)) h l = omega arith
each_arc n (suc (suc (suc zero))) h l = omega arith
each_arc n (suc (suc (suc (suc zero)))) h l = omega arith
each_arc n (suc (suc (suc (suc (suc zero))))) h l = omega arith
each_arc n (suc (suc (suc (suc (suc (suc zero)))))) h l = omega arith
each_arc n (suc (suc (suc (suc (suc (suc (suc zero))))))) h l = omega arith
each_arc n (suc (suc (suc (suc (suc (suc (suc (suc k)))))))) h l = last_arc n k h (omega arith)

small_number : (h : HashAlgorithm) → hash_number h < 128
small_number hash.SHA224 = lit< tt
small_number hash.SHA256 = lit< tt
small_number hash.SHA384 = lit< tt
small_number hash.SHA512 = lit< tt
small_number hash.SHA3_224 = lit< tt
small_number hash.SHA3_256 = lit< tt
small_number hash.SHA3_384 = lit< tt
small_number hash.SHA3_512 = lit< tt

pub nist_lawful : (n : ℕ) → n < 128 → IsLawful (nist_hash n)
nist_lawful n h = record { len = omega arith; first = omega arith; second = λ l. omega arith; both = omega arith; each = λ k l. each_arc n k h l }

pub arcs_lawful : (h : HashAlgorithm) → IsLawful (hash_arcs h)
arcs_lawful h = nist_lawful (hash_number h) (small_number h)

-- the bytes of the object identifier
pub name_bytes : (h : HashAlgorithm) → 6 ∷ 9 ∷ 96 ∷ 134 ∷ 72 ∷ 1 ∷ 101 ∷ 3 ∷ 4 ∷ 2 ∷ hash_number h ∷ [] ≡ hash_name.strict h
unfolding element digits septets high
name_bytes hash.SHA224 = refl
name_bytes hash.SHA256 = refl
name_bytes hash.SHA384 = refl
name_bytes hash.SHA512 = refl
name_bytes hash.SHA3_224 = refl
name_bytes hash.SHA3_256 = refl
name_bytes hash.SHA3_384 = refl
name_bytes hash.SHA3_512 = refl

-- the arcs that its content spells
pub content_arcs : (h : HashAlgorithm) → arcs_spelled (96 ∷ 134 ∷ 72 ∷ 1 ∷ 101 ∷ 3 ∷ 4 ∷ 2 ∷ hash_number h ∷ []) ≡ hash_arcs h
unfolding numbers_from
content_arcs hash.SHA224 = refl
content_arcs hash.SHA256 = refl
content_arcs hash.SHA384 = refl
content_arcs hash.SHA512 = refl
content_arcs hash.SHA3_224 = refl
content_arcs hash.SHA3_256 = refl
content_arcs hash.SHA3_384 = refl
content_arcs hash.SHA3_512 = refl

clean_null : (u : Option (Unit {0})) → null_kinds u ≡ [] → u ≡ Some tt
clean_null None e = cc
clean_null (Some u) e = refl

few_null : (u : Option (Unit {0})) → length (null_kinds u) ≤ 1
few_null None = omega arith
few_null (Some u) = omega arith

pub hash_is : IsMeaning hash_meaning hash_base
hash_is = record {
  written = λ v d r. (refl, (arcs_lawful v, tt), (tt, tt));
  stays = λ v d. (arcs_lawful v, tt);
  clean = λ b v e d r.
      let k = some_one b.0 v (null_kinds b.1) [] e in
      same_pair (λ (x : HashFields). x.0) (λ x. x.1) (λ x y. (x, y)) (λ x. refl) b (hash_fields v) k.0 (clean_null b.1 k.1);
  kept = λ b v ks e d. tt;
  read = λ b v ks e r. tt;
}

pub few_kinds : (b : HashFields) (v : HashAlgorithm) (ks : List Deviation) → hash_means b ≡ Some (v, ks) → length ks ≤ 1
few_kinds b v ks e = omega (arith, few_null b.1, ap length (some_one b.0 v (null_kinds b.1) ks e).1)

-- What the fields of an algorithm identifier mean keeps the laws.
use Rattle.std.proofs.Common.{◌≡◌, refl, ap, sym, ◌∙◌, ◌≤◌, ◌++◌, ◌&&◌, Bool, true, false, List, [], length, Some, arith}
use Rattle.x509_keys_parts.specs.declared.algorithm_parameters.AlgorithmIdentifierParameters.{AlgorithmIdentifierParameters}
use Rattle.x509_keys_parts.specs.declared.algorithm_parameters.AlgorithmKind.{AlgorithmKind}
use Rattle.x509_der.specs.Types.{Deviation}
use Rattle.x509_der.specs.Element.{element}
use Rattle.x509_der.specs.ObjectIdentifier.{oid_content}
use Rattle.x509_der.specs.facts.Lists.{same_pair}
use Rattle.x509_der.specs.laws.View.{some_one}
use Rattle.x509_der.specs.laws.Meaning.{IsMeaning}
use Rattle.x509_keys_parts.specs.AlgorithmKinds.{kind_of}
use Rattle.x509_keys_parts.specs.AlgorithmParameters.{by_kind}
use Rattle.x509_keys_parts.specs.facts.AlgorithmParameters.{parameters_agree}
use Rattle.x509_keys_parts.specs.AlgorithmIdentifier.{Algorithm, identified, Fields, base, is_rsa, are_absent, lacks_null, with_null, kinds_if, meaning, written_fields, algorithm_meaning, algorithm_bytes}
use Rattle.x509_keys_parts.specs.declared.algorithm_parameters.AlgorithmIdentifierParameters.TheVariants as parameters
use Rattle.x509_keys_parts.specs.declared.algorithm_parameters.AlgorithmKind.TheVariants as kinds

pub algorithm_agrees : {A : Type 0} (b : Fields A) → base.strict b ≡ algorithm_bytes b
algorithm_agrees b = ap (λ x. element 48 (element 6 (oid_content b.0) ++ x)) (parameters_agree (kind_of b.0) b.1)

-- NULL is a value of each kind, and what an RSA algorithm has
null_valid : (A : Type 0) (k : AlgorithmKind) → (by_kind {A = A} k).valid parameters.Null
null_valid A kinds.Rsa = tt
null_valid A kinds.RsassaPss = tt
null_valid A kinds.EcPublicKey = tt
null_valid A kinds.Bare = tt
null_valid A kinds.Aes = tt
null_valid A kinds.Hash = tt
null_valid A kinds.Unknown = tt

null_readable : (A : Type 0) (k : AlgorithmKind) → is_rsa k ≡ true → (by_kind {A = A} k).readable parameters.Null
null_readable A kinds.Rsa e = record { payload = Some tt; is = refl; readable = tt }
null_readable A kinds.RsassaPss e = cc
null_readable A kinds.EcPublicKey e = cc
null_readable A kinds.Bare e = cc
null_readable A kinds.Aes e = cc
null_readable A kinds.Hash e = cc
null_readable A kinds.Unknown e = cc

first_true : (a b : Bool) → (a && b) ≡ true → a ≡ true
first_true true b e = refl
first_true false b e = e

-- where NULL stands nothing was left out
nothing_lacks : (a : Bool) → (a && false) ≡ false
nothing_lacks true = refl
nothing_lacks false = refl

no_kinds : (t : Bool) → kinds_if t ≡ [] → t ≡ false
no_kinds true e = cc
no_kinds false e = refl

few_kinds : (t : Bool) → length (kinds_if t) ≤ 1
few_kinds true = omega arith
few_kinds false = omega arith

pub means_one : {A : Type 0} (b : Fields A) (v : Algorithm A) (ks : List Deviation) → meaning b ≡ Some (v, ks) → (identified b.0 (with_null (lacks_null b) b.1) ≡ v) × (kinds_if (lacks_null b) ≡ ks)
means_one b v ks e = some_one (identified b.0 (with_null (lacks_null b) b.1)) v (kinds_if (lacks_null b)) ks e

valid_with : (A : Type 0) (k : AlgorithmKind) (p : AlgorithmIdentifierParameters A) (t : Bool) → (by_kind k).valid p → (by_kind k).valid (with_null t p)
valid_with A k p true h = null_valid A k
valid_with A k p false h = h

readable_with : (A : Type 0) (k : AlgorithmKind) (p : AlgorithmIdentifierParameters A) (t : Bool) → t ≡ (is_rsa k && are_absent p) → (by_kind k).readable p → (by_kind k).readable (with_null t p)
readable_with A k p true e h = null_readable A k (first_true (is_rsa k) (are_absent p) (sym e))
readable_with A k p false e h = h

lacks_with : (A : Type 0) (k : AlgorithmKind) (p : AlgorithmIdentifierParameters A) (t : Bool) → t ≡ (is_rsa k && are_absent p) → (is_rsa k && are_absent (with_null t p)) ≡ false
lacks_with A k p true e = nothing_lacks (is_rsa k)
lacks_with A k p false e = sym e

pub algorithm_means : {A : Type 0} → IsMeaning (algorithm_meaning {A = A}) base
algorithm_means {A} = record {
  written = λ v d r. (ap (λ t. Some (identified v.algorithm (with_null t v.parameters), kinds_if t)) r.1, d, r.0);
  stays = λ v d. d;
  clean = λ b v e d r.
      let m = means_one b v [] e in
      let t = no_kinds (lacks_null b) m.1 in
      let w : identified b.0 b.1 ≡ v = ap (λ t. identified b.0 (with_null t b.1)) (sym t) ∙ m.0 in
      same_pair (λ (x : Fields A). x.0) (λ x. x.1) (λ x y. (x, y)) (λ x. refl) b (written_fields v) (ap (λ (x : Algorithm A). x.algorithm) w) (ap (λ (x : Algorithm A). x.parameters) w);
  kept = λ b v ks e d. rw (← (means_one b v ks e).0) (d.0, valid_with A (kind_of b.0) b.1 (lacks_null b) d.1);
  read = λ b v ks e r. rw (← (means_one b v ks e).0) ((r.0, readable_with A (kind_of b.0) b.1 (lacks_null b) refl r.1), lacks_with A (kind_of b.0) b.1 (lacks_null b) refl);
}

-- at most one deviation
pub algorithm_one : {A : Type 0} (b : Fields A) (v : Algorithm A) (ks : List Deviation) → meaning b ≡ Some (v, ks) → length ks ≤ 1
algorithm_one b v ks e = omega (arith, few_kinds (lacks_null b), ap length (means_one b v ks e).1)

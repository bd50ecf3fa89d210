-- A walk over the identifier of an algorithm, and its digest.
use Rattle.std.proofs.Common.{◌≡◌, true, false, ℕ, Bool, List, [], ◌∷◌, ◌++◌, Option, Some, None, refl, sym, ap, ◌∙◌, arith, subst, append-nil}
use Rattle.std.specs.Cmp.Lexicographic.{bytes_decides}
use Rattle.std.specs.List.{list_any}
use Rattle.std.specs.Prelude.{◌&&◌, ◌||◌, if◌then◌else◌}
use Rattle.x509_der.specs.Element.{element}
use Rattle.x509_der.specs.ObjectIdentifier.{IsOid, is_arcs, is_strictly_under, oid_content}
use Rattle.x509_der.specs.Tally.{Tally}
use Rattle.x509_der.specs.Types.{Deviation}
use Rattle.x509_der.specs.View.{kinds_in}
use Rattle.x509_der.specs.Partly.{unmarked}
use Rattle.x509_der.specs.facts.ObjectIdentifier.{some_is}
use Rattle.x509_keys.specs.AlgorithmIdentifier.{Algorithm, algorithm_identifier, are_absent, is_rsa, with_null}
use Rattle.x509_keys.specs.AlgorithmKinds.{aes_front, bare_algorithms, ec_public_key_algorithm, hash_front, kind_of, rsa_algorithms, rsassa_pss_algorithm, sha1_algorithm}
use Rattle.x509_keys.specs.AlgorithmParameters.{by_kind, if_aes, if_null}
use Rattle.x509_keys.specs.HashAlgorithms.{hash_of}
use Rattle.x509_keys.specs.RsassaPss.{rsassa_pss, salt_of, with_salt}
use Rattle.x509_keys.specs.Types.{AesParameters, AlgorithmIdentifierParameters, HashAlgorithm, MaskGenAlgorithm, RsassaPssParams}
use Rattle.x509_keys.specs.Types.algorithm_identifier_parameters as parameters
use Rattle.x509_keys_parts.specs.declared.algorithm_parameters.AlgorithmKind.{AlgorithmKind}
use Rattle.x509_keys_parts.specs.declared.algorithm_parameters.AlgorithmKind.TheVariants as algorithms
use Rattle.x509_fields.specs.Spans.{FieldIn}
use Rattle.x509_fields.specs.declared.span.Span.{Span}
use Rattle.x509_values.specs.Rests.{Rest}
use Rattle.x509_values.specs.Elements.{Finds, Over, span_of}
use Rattle.x509_values.specs.declared.elements.Element.{Element}
use Rattle.x509_values.specs.facts.Values.{covered}
use Rattle.x509_flat_values.specs.Covered.{CoversAll}
use Rattle.x509_flat_values.specs.Digests.{by_parameters, digest_by, digest_number, digest_of, digest_of_hash}
use Rattle.x509_flat_values.specs.Signatures.{SignatureTold}
use Rattle.x509_flat_values.specs.declared.digests.Digest.{Digest}
use Rattle.x509_flat_values.specs.declared.signatures.SignaturePlace.{SignaturePlace}
use Rattle.x509_flat_values.proofs.Walking.{Step, step, last_step, over_within, span_covers, covers_as}
use Rattle.x509_flat_values.proofs.KeyWalks.{same_arcs}

-- ---- the hash function of RSASSA-PSS
hash_meant : (o : Option HashAlgorithm) (h : HashAlgorithm) (ks : List Deviation) → unmarked o ≡ Some (h, ks) → o ≡ Some h
hash_meant None h ks e = absurd (cc)
hash_meant (Some x) h ks e = ap Some (ap (λ (t : HashAlgorithm × List Deviation). t.0) (some_is _ _ e))

pss_hash : {A : Type 0} (h : HashAlgorithm) (m : MaskGenAlgorithm A) (o : Option (ℕ × List Deviation)) (p : RsassaPssParams A) (ks : List Deviation) → with_salt h m o ≡ Some (p, ks) → h ≡ p.hash_algorithm
pss_hash h m None p ks e = absurd (cc)
pss_hash {A} h m (Some s) p ks e = ap (λ (t : RsassaPssParams A × List Deviation). t.0.hash_algorithm) (some_is _ _ e)

-- the object identifier in front of all
pub record PssName {A : Type 0} (p : RsassaPssParams A) (content : List ℕ) : Type 0 where
  pub arcs : List ℕ
  pub is_oid : IsOid arcs content
  pub hash : hash_of arcs ≡ Some p.hash_algorithm

pub pss_name : {A : Type 0} (p : RsassaPssParams A) (y : Tally) (w w1 f1 g1 h1 : Rest) (e1 e2 e3 e4 : Element) → rsassa_pss.spelled p w.rest y → Finds w w1 e1 → Finds e1.inside f1 e2 → Finds e2.inside g1 e3 → Finds e3.inside h1 e4 → PssName p e4.inside.rest
pss_name {A} p y w w1 f1 g1 h1 e1 e2 e3 e4 s finds1 finds2 finds3 finds4 =
    let t = s.spelled in
    let j = t.spelled in
    let a = j.fore in
    let r1 = finds1 48 t.content [] refl (t.bytes ∙ sym (append-nil (element 48 t.content))) in
    let r2 = finds2 160 a.content j.back refl (r1.content ∙ j.bytes ∙ ap (λ x. x ++ j.back) a.bytes) in
    let b = a.spelled in
    let d = b.spelled in
    let r3 = finds3 48 d.content [] refl (r2.content ∙ d.bytes ∙ sym (append-nil (element 48 d.content))) in
    let m = d.spelled in
    let n = m.fore in
    let i = n.spelled in
    let r4 = finds4 6 i.content m.back refl (r3.content ∙ m.bytes ∙ ap (λ x. x ++ m.back) i.bytes) in
    let I : List ℕ → Type 0 = λ x. IsOid n.base x in
    let same : b.base.0 ≡ s.base.0 = ap (λ (x : HashAlgorithm × List Deviation). x.0) (some_is _ _ b.means) in
    record {
      arcs = n.base;
      is_oid = subst I (sym r4.content) i.spelled.0;
      hash = hash_meant (hash_of n.base) b.base.0 n.kinds n.means ∙ ap Some (same ∙ pss_hash s.base.0 s.base.1.0 (salt_of s.base.1.1) p s.kinds s.means);
    }

pub pss_told : {A : Type 0} (p : RsassaPssParams A) (content arcs : List ℕ) (result : Digest) → PssName p content → IsOid arcs content → result ≡ digest_of_hash (hash_of arcs) → result ≡ digest_of_hash (Some p.hash_algorithm)
pss_told p content arcs result n oid is = is ∙ ap (λ x. digest_of_hash (hash_of x)) (same_arcs arcs n.arcs content oid n.is_oid) ∙ ap digest_of_hash n.hash

-- ---- which parameters an algorithm has
pub record IsPss {A : Type 0} (v : AlgorithmIdentifierParameters A) (p : List ℕ) (y : Tally) : Type 0 where
  pub value : RsassaPssParams A
  pub is : v ≡ parameters.RsassaPss value
  pub spelled : rsassa_pss.spelled value p y

same_as : (xs ys : List ℕ) → is_arcs xs ys ≡ true → xs ≡ ys
same_as xs ys e = (bytes_decides xs ys).0 e

pub pss_parameters : {A : Type 0} (arcs : List ℕ) (v : AlgorithmIdentifierParameters A) (p : List ℕ) (y : Tally) → is_arcs arcs rsassa_pss_algorithm ≡ true → (by_kind (kind_of arcs)).spelled v p y → IsPss v p y
pss_parameters arcs v p y e h =
    let P : List ℕ → Type 0 = λ x. (by_kind (kind_of x)).spelled v p y in
    let k = subst P (same_as arcs rsassa_pss_algorithm e) h in
    record { value = k.payload; is = k.is; spelled = k.spelled }

null_own : {A : Type 0} (own : Digest) (o : Option (Unit {0})) (v : AlgorithmIdentifierParameters A) → v ≡ if_null o → by_parameters own v ≡ own
null_own own None v e = ap (by_parameters own) e
null_own own (Some u) v e = ap (by_parameters own) e

aes_own : {A : Type 0} (own : Digest) (o : Option (AesParameters A)) (v : AlgorithmIdentifierParameters A) → v ≡ if_aes o → by_parameters own v ≡ own
aes_own own None v e = ap (by_parameters own) e
aes_own own (Some q) v e = ap (by_parameters own) e

chosen_own : {A : Type 0} (a b c d e f : Bool) (own : Digest) (v : AlgorithmIdentifierParameters A) (p : List ℕ) (y : Tally) → b ≡ false → (by_kind (if a then algorithms.Rsa else if b then algorithms.RsassaPss else if c then algorithms.EcPublicKey else if d then algorithms.Bare else if e then algorithms.Aes else if f then algorithms.Hash else algorithms.Unknown)).spelled v p y → by_parameters own v ≡ own
chosen_own true b c d e f own v p y other h = null_own own h.payload v h.is
chosen_own false true c d e f own v p y other h = absurd (cc)
chosen_own false false true d e f own v p y other h = ap (by_parameters own) h.is
chosen_own false false false true e f own v p y other h = ap (by_parameters own) h.is
chosen_own false false false false true f own v p y other h = aes_own own h.payload v h.is
chosen_own false false false false false true own v p y other h = ap (by_parameters own) h.is
chosen_own false false false false false false own v p y other h = absurd h

own_digest : {A : Type 0} (arcs : List ℕ) (own : Digest) (v : AlgorithmIdentifierParameters A) (p : List ℕ) (y : Tally) → is_arcs arcs rsassa_pss_algorithm ≡ false → (by_kind (kind_of arcs)).spelled v p y → by_parameters own v ≡ own
own_digest arcs own v p y other h = chosen_own (list_any (is_arcs arcs) rsa_algorithms) (is_arcs arcs rsassa_pss_algorithm) (is_arcs arcs ec_public_key_algorithm) (list_any (is_arcs arcs) bare_algorithms) (is_strictly_under aes_front arcs) (is_strictly_under hash_front arcs || is_arcs arcs sha1_algorithm) own v p y other h

by_same : {A : Type 0} (r : Bool) (own : Digest) (p : AlgorithmIdentifierParameters A) → by_parameters own (with_null (r && are_absent p) p) ≡ by_parameters own p
by_same false own p = refl
by_same true own parameters.None = refl
by_same true own parameters.Null = refl
by_same true own (parameters.Aes q) = refl
by_same true own (parameters.Ec q) = refl
by_same true own (parameters.RsassaPss q) = refl

-- ---- what is told
-- the fields of an algorithm's identifier
pub record Identified {A : Type 0} (string : List ℕ) (v : Algorithm A) (algorithm : Span) (content rest : List ℕ) : Type 0 where
  pub is_oid : IsOid v.algorithm content
  pub covers : CoversAll string algorithm content
  pub value : AlgorithmIdentifierParameters A
  pub tally : Tally
  pub spelled : (by_kind (kind_of v.algorithm)).spelled value rest tally
  pub digest : (own : Digest) → by_parameters own v.parameters ≡ by_parameters own value

pub identified_in : {A : Type 0} (string : List ℕ) (span : Span) (v : Algorithm A) (whole : Tally) (f : FieldIn algorithm_identifier v span string whole) (w0 w1 a1 : Rest) (e1 e2 : Element) (algorithm : Span) (content : List ℕ) →
    Over string span w0 → Finds w0 w1 e1 → Finds e1.inside a1 e2 → content ≡ e2.inside.rest → algorithm ≡ span_of e2.inside → Identified string v algorithm content a1.rest
identified_in {A} string span v whole f w0 w1 a1 e1 e2 algorithm content over finds1 finds2 id place =
    let o = over_within string f.slice span w0 over (covered algorithm_identifier v span string whole f) in
    let a = f.at.spelled in
    let i = a.spelled in
    let m = i.spelled in
    let d = m.fore in
    let t1 = last_step string 48 i.content w0 w1 e1 o.0 (o.1 ∙ i.bytes) refl finds1 in
    let t2 = step string 6 d.content m.back e1.inside a1 e2 t1.inside (t1.content ∙ m.bytes ∙ ap (λ x. x ++ m.back) d.bytes) refl finds2 in
    let same = some_is _ _ a.means in
    let arcs : a.base.0 ≡ v.algorithm = ap (λ (x : Algorithm A × List Deviation). x.0.algorithm) same in
    let I : List ℕ → Type 0 = λ x. IsOid x content in
    let J : List ℕ → Type 0 = λ x. IsOid a.base.0 x in
    let B : List ℕ → Type 0 = λ x. (by_kind (kind_of x)).spelled a.base.1 a1.rest m.second in
    let C : List ℕ → Type 0 = λ x. (by_kind (kind_of a.base.0)).spelled a.base.1 x m.second in
    record {
      is_oid = subst I arcs (subst J (sym (id ∙ t2.content)) d.spelled.0);
      covers = span_covers string content e2.inside algorithm t2.inside (sym id) place;
      value = a.base.1;
      tally = m.second;
      spelled = subst B arcs (subst C (sym t2.rest) m.aft);
      digest = λ own. ap (λ (x : Algorithm A × List Deviation). by_parameters own x.0.parameters) (sym same) ∙ by_same (is_rsa (kind_of a.base.0)) own a.base.1;
    }

pub told_pss : {A : Type 0} (string : List ℕ) (v : Algorithm A) (algorithm : Span) (content rest : List ℕ) (digest : Digest) (at : SignaturePlace) →
    Identified string v algorithm content rest → is_arcs v.algorithm rsassa_pss_algorithm ≡ true →
    ((p : RsassaPssParams A) (y : Tally) → rsassa_pss.spelled p rest y → digest ≡ digest_of_hash (Some p.hash_algorithm)) →
    at.algorithm ≡ algorithm → at.digest ≡ digest_number digest → SignatureTold string v at
told_pss string v algorithm content rest digest at i e reads place number =
    let p = pss_parameters v.algorithm i.value rest i.tally e i.spelled in
    let C : Span → Type 0 = λ s. CoversAll string s (oid_content v.algorithm) in
    let own = digest_by v.algorithm in
    record {
      algorithm = subst C (sym place) (covers_as string content (oid_content v.algorithm) algorithm.start algorithm.end i.covers i.is_oid.1);
      digest = number ∙ ap digest_number (reads p.value i.tally p.spelled ∙ sym (ap (by_parameters own) p.is) ∙ sym (i.digest own));
    }

pub told_own : {A : Type 0} (string : List ℕ) (v : Algorithm A) (algorithm : Span) (content rest : List ℕ) (digest : Digest) (at : SignaturePlace) →
    Identified string v algorithm content rest → is_arcs v.algorithm rsassa_pss_algorithm ≡ false → digest ≡ digest_by v.algorithm →
    at.algorithm ≡ algorithm → at.digest ≡ digest_number digest → SignatureTold string v at
told_own string v algorithm content rest digest at i e is place number =
    let own = digest_by v.algorithm in
    let C : Span → Type 0 = λ s. CoversAll string s (oid_content v.algorithm) in
    record {
      algorithm = subst C (sym place) (covers_as string content (oid_content v.algorithm) algorithm.start algorithm.end i.covers i.is_oid.1);
      digest = number ∙ ap digest_number (is ∙ sym (own_digest v.algorithm own i.value rest i.tally e i.spelled) ∙ sym (i.digest own));
    }

pub told_named : {A : Type 0} (string : List ℕ) (v : Algorithm A) (algorithm : Span) (content rest arcs : List ℕ) (digest : Digest) → Identified string v algorithm content rest → IsOid arcs content → digest ≡ digest_by arcs → digest ≡ digest_by v.algorithm
told_named string v algorithm content rest arcs digest i oid is = is ∙ ap digest_by (same_arcs arcs v.algorithm content oid i.is_oid)

-- Which identifiers were seen so far.
use Rattle.std.proofs.Common.{◌≡◌, ℕ, ◌+◌, ◌<◌, ◌≤◌, List, [], length, slice_index_or, Bool, true, false, not, cond, refl, sym, ap, ◌∙◌, arith, BTreeSet}
use Rattle.std.specs.Borrow.{Bor}
use Rattle.std.specs.BTreeSet.{contains}
use Rattle.std.specs.BTreeMap.{is_at}
use Rattle.std.specs.Cmp.Lexicographic.{slice_cmp}
use Rattle.std.specs.Ordering.{nat_cmp}
use Rattle.std.specs.declared.cmp.Ordering.{Ordering}
use Rattle.std.specs.List.{list_any}
use Rattle.std.proofs.lemmas.Bool.{false≢true}
use Rattle.std.proofs.lemmas.List.{get_or_default}
use Rattle.x509_der.specs.ObjectIdentifier.{IsLawful, arcs_spelled, oid_content}
use Rattle.x509_der.specs.facts.OidContent.{content_spells}
use Rattle.picky_asn1_x509_parts.specs.Extensions.{ExtensionFields}
use Rattle.x509_findings_memory.specs.Repeats.{Repeats}
use Rattle.x509_findings_memory.proofs.Contents.{alike, same}
use Rattle.x509_findings_memory.proofs.Steps.{one_more}

-- how contents are compared
abbrev pub order : Bor (List ℕ) → Bor (List ℕ) → Ordering
order x y = slice_cmp nat_cmp x.now y.now

abbrev pub identifier : {A : Type 0} → List (ExtensionFields A) → ℕ → ExtensionFields A → List ℕ
identifier xs i d = (slice_index_or xs i d).extn_id

-- an extension among the first few has the identifier
pub record Among {A : Type 0} (xs : List (ExtensionFields A)) (n : ℕ) (content : List ℕ) : Type 0 where
  pub place : ℕ
  pub before : place < n
  pub is : (d : ExtensionFields A) → identifier xs place d ≡ arcs_spelled content

-- the contents of the first few identifiers are there, no others are, and they are all different
pub record SoFar {A : Type 0} (xs : List (ExtensionFields A)) (n : ℕ) (seen : BTreeSet (Bor (List ℕ))) : Type 0 where
  pub all : (i : ℕ) → i < n → (q : Bor (List ℕ)) → ((d : ExtensionFields A) → q.now ≡ oid_content (identifier xs i d)) → contains order seen q ≡ true
  pub only : (q : Bor (List ℕ)) → contains order seen q ≡ true → Among xs n q.now
  pub apart : (i j : ℕ) → i < j → j < n → ((d : ExtensionFields A) → identifier xs i d ≡ identifier xs j d) → ⊥

-- the test that finds what stands there
abbrev finds : Bor (List ℕ) → Bor (List ℕ) → Bool
finds key q = is_at (order key) q

-- at the start nothing was seen
pub start : {A : Type 0} (xs : List (ExtensionFields A)) (seen : BTreeSet (Bor (List ℕ))) → seen.keys ≡ [] → SoFar xs 0 seen
start xs seen e = record {
  all = λ i b. absurd (omega (arith, b));
  only = λ q c. absurd (false≢true (sym (ap (list_any (finds q)) e) ∙ c));
  apart = λ i j b l. absurd (omega (arith, l));
}

-- whichever stands in for what isn't there
at_is : {A : Type 0} (xs : List (ExtensionFields A)) (i : ℕ) (x d : ExtensionFields A) → i < length xs → x ≡ slice_index_or xs i x → slice_index_or xs i d ≡ x
at_is xs i x d b e = get_or_default xs i d x b ∙ sym e

-- one that was seen is there twice
pub found : {A : Type 0} (xs : List (ExtensionFields A)) (i : ℕ) (x : ExtensionFields A) (seen : BTreeSet (Bor (List ℕ))) (key : Bor (List ℕ)) → i < length xs → x ≡ slice_index_or xs i x → IsLawful x.extn_id → key.now ≡ oid_content x.extn_id → SoFar xs i seen → contains order seen key ≡ true → Repeats xs
found xs i x seen key b e lawful k so c =
    let one = so.only key c in
    record {
      first = one.place;
      second = i;
      order = one.before;
      within = b;
      same = λ d. one.is d ∙ ap arcs_spelled k ∙ content_spells x.extn_id lawful ∙ ap (λ v. v.extn_id) (sym (at_is xs i x d b e));
    }

-- of so many none is there twice
pub none : {A : Type 0} (xs : List (ExtensionFields A)) (n : ℕ) (seen : BTreeSet (Bor (List ℕ))) → length xs ≤ n → SoFar xs n seen → Repeats xs → ⊥
none xs n seen ends so r = so.apart r.first r.second r.order (omega (arith, ends, r.within)) r.same

-- what a set answers once a key was put in
abbrev Inserted : Bor (List ℕ) → BTreeSet (Bor (List ℕ)) → BTreeSet (Bor (List ℕ)) → Type 0
Inserted key old new = (q : Bor (List ℕ)) → contains order new q ≡ cond (is_at (order key) q) true (contains order old q)

either : (t : Bool) → cond t true true ≡ true
either true = refl
either false = refl

-- what was there still is, and the key
kept : (key q : Bor (List ℕ)) (old new : BTreeSet (Bor (List ℕ))) → Inserted key old new → contains order old q ≡ true → contains order new q ≡ true
kept key q old new put c = put q ∙ ap (cond (is_at (order key) q) true) c ∙ either (is_at (order key) q)

put_in : (key q : Bor (List ℕ)) (old new : BTreeSet (Bor (List ℕ))) → Inserted key old new → key.now ≡ q.now → contains order new q ≡ true
put_in key q old new put e = put q ∙ ap (λ t. cond t true (contains order old q)) (alike key.now q.now e)

-- what is there was there, or is the key
one_of : {A : Type 0} (xs : List (ExtensionFields A)) (i : ℕ) (x : ExtensionFields A) (key q : Bor (List ℕ)) (old new : BTreeSet (Bor (List ℕ))) → i < length xs → x ≡ slice_index_or xs i x → IsLawful x.extn_id → key.now ≡ oid_content x.extn_id → Inserted key old new → SoFar xs i old → (t : Bool) → is_at (order key) q ≡ t → contains order new q ≡ true → Among xs (i + 1) q.now
one_of xs i x key q old new b e lawful k put so true t c = record {
  place = i;
  before = omega arith;
  is = λ d. ap (λ v. v.extn_id) (at_is xs i x d b e) ∙ sym (content_spells x.extn_id lawful) ∙ ap arcs_spelled (sym k ∙ same key.now q.now t);
}
one_of xs i x key q old new b e lawful k put so false t c =
    let one = so.only q (sym (ap (λ u. cond u true (contains order old q)) t) ∙ sym (put q) ∙ c) in
    record {
      place = one.place;
      before = omega (arith, one.before);
      is = one.is;
    }

-- one that wasn't seen is different
pub step : {A : Type 0} (xs : List (ExtensionFields A)) (i : ℕ) (x : ExtensionFields A) (key : Bor (List ℕ)) (old new : BTreeSet (Bor (List ℕ))) → i < length xs → x ≡ slice_index_or xs i x → IsLawful x.extn_id → key.now ≡ oid_content x.extn_id → contains order old key ≡ false → Inserted key old new → SoFar xs i old → SoFar xs (i + 1) new
step xs i x key old new b e lawful k absent put so = record {
  all = one_more (λ n. (q : Bor (List ℕ)) → ((d : ExtensionFields _) → q.now ≡ oid_content (identifier xs n d)) → contains order new q ≡ true) i
      (λ n l q h. kept key q old new put (so.all n l q h))
      (λ q h. put_in key q old new put (k ∙ ap (λ v. oid_content v.extn_id) (sym (at_is xs i x x b e)) ∙ sym (h x)));
  only = λ q c. one_of xs i x key q old new b e lawful k put so (is_at (order key) q) refl c;
  apart = λ n j l m h. one_more (λ p. (o : ℕ) → o < p → ((d : ExtensionFields _) → identifier xs o d ≡ identifier xs p d) → ⊥) i
      (λ p r o s same_as. so.apart o p s r same_as)
      (λ o s same_as. false≢true (sym absent ∙ so.all o s key (λ d. k ∙ ap oid_content (ap (λ v. v.extn_id) (sym (at_is xs i x d b e)) ∙ sym (same_as d)))))
      j m n l h;
}

-- what an insertion answers
pub was_absent : (added had : Bool) → added ≡ not had → added ≡ true → had ≡ false
was_absent added true e t = absurd (false≢true (sym e ∙ t))
was_absent added false e t = refl

pub was_there : (added had : Bool) → added ≡ not had → added ≡ false → had ≡ true
was_there added true e t = refl
was_there added false e t = absurd (false≢true (sym t ∙ e))

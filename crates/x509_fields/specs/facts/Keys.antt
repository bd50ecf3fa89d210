-- A walk over a private key with its algorithm.
use Rattle.std.proofs.Common.{◌≡◌, ℕ, ◌+◌, ◌==◌, Bool, true, false, not, eqb, List, [], ◌++◌, length, refl, sym, ap, ◌∙◌, append-nil, lit<, arith, length-append, true≢false, Option, Some, None}
use Rattle.x509_der.specs.Element.{element, header}
use Rattle.x509_der.specs.Optional.{OptionalAt}
use Rattle.x509_der.specs.Shape.{Begins, Follows, IsElement}
use Rattle.x509_der.specs.SmallInteger.{small_integers}
use Rattle.x509_der.specs.BitString.{bit_strings}
use Rattle.x509_der.specs.Tagged.{tagged}
use Rattle.x509_der.specs.Tally.{Tally}
use Rattle.x509_der.specs.laws.Tagged.{tagged_element}
use Rattle.x509_keys.specs.AlgorithmIdentifier.{algorithm_identifier}
use Rattle.x509_keys.specs.KeyKinds.{key_kind}
use Rattle.x509_keys.specs.KeyPlaces.{InfoAt}
use Rattle.x509_keys.specs.PrivateKeyInfos.{is_skipped, skipped, info_public_key}
use Rattle.x509_keys.specs.PrivateKeyValues.{private_by_kind}
use Rattle.x509_keys.specs.declared.private_key_info.PrivateKeyInfo.{PrivateKeyInfo}
use Rattle.x509_fields.specs.Keys.{PrivateKeyIn, key_spans}
use Rattle.x509_fields.specs.Walks.{Walk, Steps, StepsIf, StepsUnless}
use Rattle.x509_fields.specs.declared.private_key.PrivateKeyInfoFields.{PrivateKeyInfoFields}
use Rattle.x509_fields.specs.declared.span.Span.{Span}
use Rattle.x509_fields.specs.facts.Chains.{Passes, passes_none, passes_one, passes_if, passes_unless, to_end, fill_all}
use Rattle.x509_fields.specs.facts.Fields.{Before, FoundIf, at_front, at_back, empty_behind, field_step, raw_step, optional_step, element_raw}

pub not_is : (b : Bool) → not b ≡ true → b ≡ false
not_is true h = cc
not_is false h = refl

-- a tag that is skipped isn't that of a public key
skipped_tag : (t : ℕ) (c p : List ℕ) → p ≡ element t c → Begins is_skipped p → (t == 161) ≡ false
unfolding element
skipped_tag t c p e b = let h : not (eqb t 161) ≡ true = rw e at b in not_is (t == 161) h

-- what begins with a public key
key_in_front : (c rest : List ℕ) → rest ≡ element 161 c → Follows (λ b. not (b == 161)) rest
unfolding element
key_in_front c rest e = rw e refl

-- and what begins with another element
other_in_front : (t : ℕ) (c q rest : List ℕ) → (t == 161) ≡ false → rest ≡ element t c ++ q → Follows (λ b. not (b == 161)) rest → ⊥
unfolding element
other_in_front t c q rest other e f = let h : not (t == 161) ≡ false = rw e at f in true≢false (ap not (sym other) ∙ h)

-- an element that isn't a public key
pub skipped_step : (o : Option (List ℕ)) (v : Option _) (m n : ℕ) (p q string : List ℕ) (whole : Tally) (old new : Walk) (span : Option Span) → OptionalAt skipped o m p string whole → OptionalAt info_public_key v n q string whole → Before old m p q → StepsUnless 161 old new span → FoundIf skipped o span new m p q string whole
skipped_step None v m n p q string whole old new None f g h s = record { field = tt; behind = empty_behind old new m p q f s.0 h }
skipped_step None None m n p q string whole old new (Some span) f g h s =
    let empty : old.rest ≡ [] = h.rest ∙ ap (λ x. x ++ q) f ∙ g in
    absurd (s.1 (rw empty tt))
skipped_step None (Some v) m n p q string whole old new (Some span) f g h s =
    let i = g.field.spelled in
    absurd (s.1 (key_in_front i.content old.rest (h.rest ∙ ap (λ x. x ++ q) f ∙ i.bytes)))
skipped_step (Some r) v m n p q string whole old new None f g h s =
    let i = f.field.spelled in
    absurd (other_in_front i.0.is.tag i.0.is.content q old.rest (skipped_tag i.0.is.tag i.0.is.content p i.0.is.bytes i.1) (h.rest ∙ ap (λ x. x ++ q) i.0.is.bytes) s.1)
skipped_step (Some r) v m n p q string whole old new (Some span) f g h s =
    let k = raw_step skipped r m p q string whole old new span f.field.spelled.0.is f.field h s.0 in
    record { field = k.field; behind = k.behind }

-- the walk before the first step, and behind each of the five, with what each found
pub record KeyWalk (at : PrivateKeyInfoFields) : Type 0 where
  pub w : Walk
  pub w1 : Walk
  pub w2 : Walk
  pub w3 : Walk
  pub w4 : Walk
  pub w5 : Walk
  pub t1 : Steps w w1 at.version
  pub t2 : Steps w1 w2 at.private_key_algorithm
  pub t3 : Steps w2 w3 at.private_key
  pub t4 : StepsUnless 161 w3 w4 at.skipped
  pub t5 : StepsIf 161 w4 w5 at.public_key

pub key_passes : (at : PrivateKeyInfoFields) (k : KeyWalk at) → Passes k.w k.w5 (key_spans at)
key_passes at k =
    passes_one k.w k.w1 k.w5 at.version _ k.t1
    (passes_one k.w1 k.w2 k.w5 at.private_key_algorithm _ k.t2
    (passes_one k.w2 k.w3 k.w5 at.private_key _ k.t3
    (passes_unless 161 k.w3 k.w4 k.w5 at.skipped _ k.t4
    (passes_if 161 k.w4 k.w5 k.w5 at.public_key _ k.t5 (passes_none k.w5)))))

pub walked_key : {A : Type 0} → IsElement (algorithm_identifier {A = A}) → (at : PrivateKeyInfoFields) (k : KeyWalk at) (v : PrivateKeyInfo A) (string : List ℕ) (y : Tally) → (a : InfoAt v string y) → k.w.rest ≡ a.content → k.w.at ≡ header a.content → PrivateKeyIn v at string y
walked_key algorithms at k v string y a rest start =
    let m = header a.content in
    let key = a.algorithms ++ a.keys in
    let end = a.others ++ a.publics in
    let b0 : Before k.w m a.content [] = record { rest = rest ∙ sym (append-nil a.content); at = start } in
    let f1 = at_front k.w m a.content a.versions (key ++ end) [] a.fields b0 in
    let r1 = field_step (tagged 2 small_integers) (tagged_element 2 small_integers refl (lit< tt)) v.version m a.versions ((key ++ end) ++ []) string y k.w k.w1 at.version a.version_at f1 k.t1 in
    let m1 = m + length a.versions in
    let b1 = at_back k.w1 m a.versions (key ++ end) [] r1.behind in
    let f2 = at_front k.w1 m1 key a.algorithms a.keys (end ++ []) refl (at_front k.w1 m1 (key ++ end) key end [] refl b1) in
    let r2 = field_step algorithm_identifier algorithms v.private_key_algorithm m1 a.algorithms (a.keys ++ (end ++ [])) string y k.w1 k.w2 at.private_key_algorithm a.algorithm_at f2 k.t2 in
    let m2 = m1 + length a.algorithms in
    let r3 = raw_step (private_by_kind (key_kind v.private_key_algorithm.algorithm)) v.private_key m2 a.keys (end ++ []) string y k.w2 k.w3 at.private_key (element_raw 4 a.octets a.keys refl (lit< tt) a.key_bytes) a.key_at.field (at_back k.w2 m1 a.algorithms a.keys (end ++ []) r2.behind) k.t3 in
    let m3 = m1 + length key in
    let b3 : Before k.w3 m3 a.others a.publics = record { rest = r3.behind.rest ∙ append-nil end; at = omega (arith, r3.behind.at, length-append a.algorithms a.keys) } in
    let m4 = m3 + length a.others in
    let r4 = skipped_step a.between v.public_key m3 m4 a.others a.publics string y k.w3 k.w4 at.skipped a.other_at a.public_at b3 k.t4 in
    let b4 : Before k.w4 m4 a.publics [] = record { rest = r4.behind.rest ∙ sym (append-nil a.publics); at = r4.behind.at } in
    let r5 = optional_step 161 (tagged 3 bit_strings) refl (lit< tt) v.public_key m4 a.publics [] string y k.w4 k.w5 at.public_key a.public_at b4 tt k.t5 in
    let all = to_end k.w k.w5 (key_spans at) (key_passes at k) r5.behind.rest in
    record {
      between = a.between;
      version = r1.field;
      private_key_algorithm = r2.field;
      private_key = r3.field;
      skipped = r4.field;
      public_key = r5.field;
      fill = fill_all string a.content (key_spans at) k.w a.bytes rest start all;
    }

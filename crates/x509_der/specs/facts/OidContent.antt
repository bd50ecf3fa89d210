-- Contents of object identifiers: what they spell, and how they are checked and taken apart.
use Rattle.std.specs.Prelude.{◌≡◌, ◌↔◌, ℕ, ◌+◌, ◌*◌, ◌-◌, ◌≤◌, ◌<◌, ◌^◌, List, [], ◌∷◌, ◌++◌, length, zero, suc, ◌/◌, ◌%◌, Option, Some, None, Bool, true, false, ◌&&◌, IsTrue, nat_eq, nat_lt, count_by, slice_get}
use Rattle.std.specs.List.{flat_map}
use Rattle.std.specs.Option.{is_some, option_eq}
use Rattle.std.specs.Iterator.{YieldsFirst}
use Rattle.std.specs.Cmp.Lexicographic.{pointwise, bytes_decides}
use Rattle.std.proofs.Common.{inl, inr, refl, sym, ap, ◌∙◌, arith, cond, eqb, eq-eqb, ltb, not, take, drop, get_or, length-append}
use Rattle.std.proofs.Math.Seq.{get_or-append_seam}
use Rattle.std.proofs.lemmas.List.{length-drop, length-take-le, get_or_append_left, drop_more}
use Rattle.std.proofs.lemmas.List.Sums.{sum_by-append}
use Rattle.std.proofs.lemmas.Bool.{ne_eqb, ltb-true, ltb-false, lt-ltb, le-ltb}
use Rattle.x509_der.specs.ObjectIdentifier.{IsLawful, IsOid, IsUnder, high, high_digits, septets, numbers_from, put_front, parse_numbers, spelled_numbers, oid_content, arcs_in, if_some_numbers, numbers_in, arcs_spelled, AreNumbers, BeginsNumber, is_arcs}
use Rattle.x509_der.specs.facts.ObjectIdentifier.{tells, front_ok, ahead, Numbering, numbering_start, numbering_low, numbering_high, numbering_zero, numbering_large, numbering_end, numbering_cut, oid_here, oid_parsed, oid_plain, no_bytes, not_none, no_oid_of_none, numbers_some, by_cases, spelled_split, septets_are, some_is}
use Rattle.x509_der.specs.facts.Under.{same_test}

-- the content of lawful arcs spells them
pub content_spells : (v : List ℕ) → IsLawful v → arcs_spelled (oid_content v) ≡ v
content_spells v h =
    let p = oid_content v in
    let e = oid_parsed v p (h, refl) in
    ap (λ o. arcs_in (if_some_numbers o)) e ∙ oid_plain.one (arcs_in (spelled_numbers v)) v p (oid_here p (spelled_numbers v) e (numbers_some v (by_cases v h))) (h, refl)

pub content_is : (v : List ℕ) → IsLawful v → IsOid (arcs_spelled (oid_content v)) (oid_content v)
content_is v h = rw (content_spells v h) (h, refl)

-- and begins with a number
pub oid_begins : (v p : List ℕ) → IsOid v p → BeginsNumber p
oid_begins v p h = record { first = 40 * get_or v 0 0 + get_or v 1 0; others = drop 2 v; parsed = oid_parsed v p h ∙ ap Some (spelled_split v h.0) }

-- ---- checking
pub record Checking (bytes : List ℕ) (i sofar : ℕ) (fresh : Bool) : Type 0 where
  pub numbers : List ℕ
  pub state : Numbering bytes numbers i sofar fresh
  pub begun : fresh ≡ true → numbers ≡ [] → i ≡ 0

pub checking_start : (bytes : List ℕ) → Checking bytes 0 0 true
checking_start bytes = record { numbers = []; state = numbering_start bytes; begun = λ f e. refl }

not_pushed : (ns : List ℕ) (n : ℕ) → ns ++ n ∷ [] ≡ [] → ⊥
not_pushed [] n e = absurd cc
not_pushed (m ∷ ns) n e = absurd cc

pub checking_low : (bytes : List ℕ) (i sofar : ℕ) (fresh : Bool) (b d : ℕ) → Checking bytes i sofar fresh → i < length bytes → b ≡ get_or bytes i d → b < 128 → sofar * 128 + b < 2 ^ 64 → Checking bytes (i + 1) 0 true
checking_low bytes i sofar fresh b d c h e lt small = record {
  numbers = c.numbers ++ (sofar * 128 + b) ∷ [];
  state = numbering_low bytes c.numbers i sofar fresh c.state b d h e lt small;
  begun = λ f z. absurd (not_pushed c.numbers (sofar * 128 + b) z);
}

pub checking_high : (bytes : List ℕ) (i sofar : ℕ) (fresh : Bool) (b d : ℕ) → Checking bytes i sofar fresh → i < length bytes → b ≡ get_or bytes i d → 128 ≤ b → b < 256 → (fresh && eqb b 128) ≡ false → Checking bytes (i + 1) (sofar * 128 + (b - 128)) false
checking_high bytes i sofar fresh b d c h e top small n = record {
  numbers = c.numbers;
  state = numbering_high bytes c.numbers i sofar fresh c.state b d h e top small n;
  begun = λ f z. absurd cc;
}

none_left : (bytes : List ℕ) → length bytes ≡ 0 → bytes ≡ []
none_left [] e = refl
none_left (b ∷ bs) e = absurd (omega (arith, e))

pub checked : (bytes : List ℕ) (i sofar : ℕ) (fresh : Bool) → Checking bytes i sofar fresh → length bytes ≤ i → (bytes ≡ [] → ⊥) → fresh ≡ true → IsOid (arcs_spelled bytes) bytes
checked bytes i sofar fresh c h some f =
    let p = numbering_end bytes c.numbers i sofar fresh c.state h f in
    rw p (oid_here bytes c.numbers p (λ z. some (none_left bytes (let e = c.begun f z in omega (arith, e, h)))))

pub nothing : (bytes : List ℕ) → bytes ≡ [] → (v : List ℕ) → IsOid v bytes → ⊥
nothing [] e v h = no_oid_of_none v h
nothing (b ∷ bs) e v h = absurd cc

-- ---- taking apart
module _ (bytes : List ℕ) (begins : BeginsNumber bytes) (i sofar : ℕ) (inv : Numbering bytes [] i sofar (eqb i 0)) where
  pub split_below : sofar < 2 ^ 57
  split_below =
      elim (tells (ltb sofar 144115188075855872)) [
        | inl h ↦ ltb-true sofar 144115188075855872 h
        | inr h ↦ absurd (not_none bytes _ begins.parsed (numbering_large bytes [] i sofar (eqb i 0) inv (ltb-false sofar 144115188075855872 h)))
      ]

  pub split_high : (b d : ℕ) → i < length bytes → b ≡ get_or bytes i d → 128 ≤ b → b < 256 → Numbering bytes [] (i + 1) (sofar * 128 + (b - 128)) (eqb (i + 1) 0)
  split_high b d h e top small =
      elim (tells (eqb i 0 && eqb b 128)) [
        | inl n ↦ absurd (not_none bytes _ begins.parsed (numbering_zero bytes [] i sofar (eqb i 0) inv b d h e top n))
        | inr n ↦ rw (ne_eqb (i + 1) 0 (λ (z : i + 1 ≡ 0). omega (arith, z))) (numbering_high bytes [] i sofar (eqb i 0) inv b d h e top small n)
      ]

  ahead_one : (n : ℕ) (o : Option (List ℕ)) → ahead (n ∷ []) o ≡ put_front n o
  ahead_one n None = refl
  ahead_one n (Some ns) = refl

  pub split_low : (b d : ℕ) → i < length bytes → b ≡ get_or bytes i d → b < 128 → parse_numbers bytes ≡ put_front (sofar * 128 + b) (parse_numbers (drop (i + 1) bytes))
  split_low b d h e lt =
      let s = numbering_low bytes [] i sofar (eqb i 0) inv b d h e lt (let k = split_below in omega (arith, k, lt)) in
      s.same ∙ ahead_one (sofar * 128 + b) (numbers_from 0 true (drop (i + 1) bytes))

  pub split_never : length bytes ≤ i → ⊥
  split_never h =
      elim (tells (eqb i 0)) [
        | inl f ↦ let e = some_is _ _ (sym (numbering_end bytes [] i sofar (eqb i 0) inv h f) ∙ begins.parsed) in cc
        | inr f ↦ not_none bytes _ begins.parsed (numbering_cut bytes [] i sofar (eqb i 0) inv h f)
      ]

pub split_start : (bytes : List ℕ) → Numbering bytes [] 0 0 (eqb 0 0)
split_start bytes = numbering_start bytes

-- the number in front, and those behind it
pub split_rest : (bytes rest : List ℕ) (n : ℕ) → BeginsNumber bytes → parse_numbers bytes ≡ put_front n (parse_numbers rest) → AreNumbers rest × (numbers_in bytes ≡ n ∷ numbers_in rest)
split_rest bytes rest n b e =
    let f = front_ok n (parse_numbers rest) (b.first ∷ b.others) (sym e ∙ b.parsed) in
    (record { numbers = f.0; parsed = f.1 }, ap if_some_numbers e ∙ ap (λ o. if_some_numbers (put_front n o)) f.1 ∙ ap (λ o. n ∷ if_some_numbers o) (sym f.1))

some_begin : (bytes ns : List ℕ) → parse_numbers bytes ≡ Some ns → (bytes ≡ [] → ⊥) → BeginsNumber bytes
some_begin bytes [] e h = absurd (h (no_bytes bytes e))
some_begin bytes (n ∷ ns) e h = record { first = n; others = ns; parsed = e }

pub more_begin : (bytes : List ℕ) → AreNumbers bytes → (bytes ≡ [] → ⊥) → BeginsNumber bytes
more_begin bytes a h = some_begin bytes a.numbers a.parsed h

pub none_more : numbers_in [] ≡ []
unfolding numbers_from
none_more = refl

-- ---- comparing
lawful_some : (v : List ℕ) → IsLawful v → v ≡ [] → ⊥
lawful_some v h e = let l = h.len in omega (arith, l, ap length e)

spelled_by : (d v : List ℕ) (o : Option (List ℕ)) → parse_numbers d ≡ o → IsLawful v → v ≡ arcs_in (if_some_numbers o) → d ≡ oid_content v
spelled_by d v None e h s = absurd (lawful_some v h s)
spelled_by d v (Some []) e h s = absurd (lawful_some v h s)
spelled_by d v (Some (n ∷ ns)) e h s = (oid_here d (n ∷ ns) e (λ z. cc)).1 ∙ ap oid_content (sym s)

-- contents are the same where their arcs are
pub same_content : (c d : List ℕ) → IsOid (arcs_spelled c) c → pointwise nat_eq c d ≡ is_arcs (arcs_spelled c) (arcs_spelled d)
same_content c d h =
    let own = bytes_decides c d in
    let arcs = bytes_decides (arcs_spelled c) (arcs_spelled d) in
    same_test (pointwise nat_eq c d) (is_arcs (arcs_spelled c) (arcs_spelled d)) own (
      λ t. h.1 ∙ sym (spelled_by d (arcs_spelled c) (parse_numbers d) refl h.0 (arcs.0 t)),
      λ e. arcs.1 (ap arcs_spelled e),
    )

-- ---- counting
abbrev is_last : ℕ → Bool
is_last b = nat_lt b 128

count_append : (xs ys : List ℕ) → count_by is_last (xs ++ ys) ≡ count_by is_last xs + count_by is_last ys
count_append xs ys = sum_by-append (λ b. cond (is_last b) 1 0) xs ys

count_high : (f n : ℕ) → count_by is_last (high f n) ≡ 0
unfolding high
count_high zero n = refl
count_high (suc f) n =
    elim (tells (eqb n 0)) [
      | inl h ↦ rw h refl
      | inr h ↦ rw h (count_append (high f (n / 128)) ((128 + n % 128) ∷ []) ∙ rw (count_high f (n / 128), le-ltb (128 + n % 128) 128 (omega arith)) refl)
    ]

count_septets : (n : ℕ) → count_by is_last (septets n) ≡ 1
count_septets n = rw (septets_are n) (count_append (high_digits (n / 128)) ((n % 128) ∷ []) ∙ rw (count_high (n / 128) (n / 128), lt-ltb (n % 128) 128 (omega arith)) refl)

count_numbers : (ns : List ℕ) → count_by is_last (flat_map septets ns) ≡ length ns
count_numbers [] = refl
count_numbers (n ∷ ns) = let a = count_append (septets n) (flat_map septets ns) in let s = count_septets n in let i = count_numbers ns in omega (arith, a, s, i)

-- a content has as many last digits as there are arcs but one
pub arcs_counted : (v p : List ℕ) → IsOid v p → count_by is_last p + 1 ≡ length v
arcs_counted v p h =
    let e : count_by is_last p ≡ length (spelled_numbers v) = ap (count_by is_last) h.1 ∙ count_numbers (spelled_numbers v) in
    let l = ap length (spelled_split v h.0) in
    let m = h.0.len in
    omega (arith, e, l, m, length-drop 2 v)

-- ---- what stands behind a front
-- another arc stands where the front goes on, or none
pub not_ahead : (front own arcs new more : List ℕ) (i : ℕ) (r : Option ℕ) → arcs ≡ take i front ++ own → i < length front → YieldsFirst (λ s. s) own r new → not (option_eq nat_eq r (Some (get_or front i 0))) ≡ true → arcs ≡ front ++ more → ⊥
not_ahead front own arcs new more i None e lt y h m =
    let l : length (take i front) ≡ i = length-take-le i front (omega (arith, lt)) in
    omega (arith, lt, l, ap length e, ap length m, ap length y.0, length-append (take i front) own, length-append front more)
not_ahead front own arcs new more i (Some x) e lt y h m =
    let l : length (take i front) ≡ i = length-take-le i front (omega (arith, lt)) in
    let a : get_or arcs i 0 ≡ x = ap (λ t. get_or t i 0) (e ∙ ap (λ t. take i front ++ t) y) ∙ ap (λ k. get_or (take i front ++ x ∷ new) k 0) (sym l) ∙ get_or-append_seam (take i front) x new 0 in
    let b : get_or arcs i 0 ≡ get_or front i 0 = ap (λ t. get_or t i 0) m ∙ get_or_append_left front more 0 i lt in
    let q : nat_eq x (get_or front i 0) ≡ true = eq-eqb x (get_or front i 0) (sym a ∙ b) in
    let z : not true ≡ true = ap not (sym q) ∙ h in
    cc

empty_length : (xs : List ℕ) → length xs ≡ 0 → xs ≡ []
empty_length [] e = refl
empty_length (x ∷ xs) e = absurd (omega (arith, e))

pub under_behind : (front arcs rest new : List ℕ) (r : Option ℕ) → arcs ≡ front ++ rest → YieldsFirst (λ s. s) rest r new → IsTrue (is_some r) ↔ IsUnder front arcs
under_behind front arcs rest new None e y =
    (λ t. cc, λ u. absurd (u.some (empty_length u.more (omega (arith, ap length e, ap length u.arcs_are, ap length y.0, length-append front rest, length-append front u.more)))))
under_behind front arcs rest new (Some x) e y = (λ t. record { more = x ∷ new; arcs_are = e ∙ ap (λ t. front ++ t) y; some = λ z. cc }, λ u. refl)

pub not_under : (front arcs : List ℕ) → ((more : List ℕ) → arcs ≡ front ++ more → ⊥) → IsTrue false ↔ IsUnder front arcs
not_under front arcs n = (λ t. cc, λ u. absurd (n u.more u.arcs_are))

-- another content is that of other arcs
pub content_test : (v d : List ℕ) → IsLawful v → pointwise nat_eq (oid_content v) d ≡ is_arcs v (arcs_spelled d)
content_test v d h = same_content (oid_content v) d (content_is v h) ∙ ap (λ a. is_arcs a (arcs_spelled d)) (content_spells v h)

-- ---- an arc at a place
abbrev head_of : List ℕ → Option ℕ
head_of [] = None
head_of (x ∷ xs) = Some x

head_behind : (arcs : List ℕ) (i : ℕ) → head_of (drop i arcs) ≡ slice_get arcs i
head_behind [] zero = refl
head_behind [] (suc i) = refl
head_behind (x ∷ xs) zero = refl
head_behind (x ∷ xs) (suc i) = head_behind xs i

head_given : (own new : List ℕ) (r : Option ℕ) → YieldsFirst (λ s. s) own r new → r ≡ head_of own
head_given own new None y = ap head_of (sym y.0)
head_given own new (Some x) y = ap head_of (sym y)

pub this_arc : (arcs own new : List ℕ) (i : ℕ) (r : Option ℕ) → own ≡ drop i arcs → YieldsFirst (λ s. s) own r new → r ≡ slice_get arcs i
this_arc arcs own new i r e y = head_given own new r y ∙ ap head_of e ∙ head_behind arcs i

pub arcs_on : (arcs own new : List ℕ) (i x : ℕ) → own ≡ drop i arcs → own ≡ x ∷ new → new ≡ drop (i + 1) arcs
arcs_on arcs own new i x e y =
    let lt : i < length arcs = omega (arith, ap length e, ap length y, length-drop i arcs) in
    let d : x ∷ new ≡ get_or arcs i 0 ∷ drop (i + 1) arcs = sym y ∙ e ∙ drop_more arcs i 0 lt in
    cc

pub no_arc : (arcs : List ℕ) (i k : ℕ) → [] ≡ drop i arcs → i < k → None ≡ slice_get arcs k
no_arc [] i k e lt = refl
no_arc (x ∷ xs) zero k e lt = absurd cc
no_arc (x ∷ xs) (suc i) zero e lt = absurd (omega (arith, lt))
no_arc (x ∷ xs) (suc i) (suc k) e lt = no_arc xs i k e (omega (arith, lt))

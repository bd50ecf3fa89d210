-- A whole SEQUENCE with the slice of its first field, and the deviations inside that slice and outside of it.
use Rattle.std.proofs.Common.{◌≡◌, ℕ, ◌+◌, ◌-◌, ◌≤◌, ◌<◌, List, [], ◌∷◌, ◌++◌, length, take, drop, sum, get_or, ⊎_elim, refl, sym, ap, subst, ◌∙◌, arith, append-nil, length-append}
use Rattle.std.specs.Prelude.{None, replicate}
use Rattle.std.proofs.Math.Seq.{drop-append_seam}
use Rattle.std.proofs.lemmas.List.{append_cancel_left, take_at}
use Rattle.std.proofs.lemmas.Bool.{cases_lt}
use Rattle.std.proofs.Math.ListN.{get_or-eq_default}
use Rattle.x509_der_parts.specs.declared.errors.ReadError.{ReadError}
use Rattle.x509_der_parts.specs.declared.errors.ReadError.TheVariants.{OutOfMemory}
use Rattle.x509_der_parts.specs.Deviations.{Together}
use Rattle.x509_der_parts.specs.Element.{element, header, digits}
use Rattle.x509_der_parts.specs.facts.Element.{element_one, element_length}
use Rattle.x509_der_parts.specs.facts.Lists.{same_pair}
use Rattle.x509_der_parts.specs.Tally.{Tally, Mark, joined, inside, counts_of}
use Rattle.x509_der_parts.specs.reads.Counts.{tallied_joined, tallied_inside, tallied_at, counts_are, counts_sum}
use Rattle.x509_der_parts.specs.Shape.{Shape, Lawful}
use Rattle.x509_der_parts.specs.facts.Parts.{part_content, first_there}
use Rattle.x509_der_parts.specs.facts.Fields.{strict_where}
use Rattle.x509_der_parts.specs.Tagged.{tagged}
use Rattle.x509_der_parts.specs.laws.Tagged.{tagged_lawful}
use Rattle.x509_der_parts.specs.Join.{Apart}
use Rattle.x509_der_parts.specs.laws.Join.{join_lawful}
use Rattle.x509_der_parts.specs.reads.Join.{join_accepts, join_first, join_second}
use Rattle.x509_der_parts.specs.laws.Structure.{structure_lawful}
use Rattle.x509_der_parts.specs.Calls.{NoWhole}
use Rattle.x509_der_parts.specs.reads.WholeInput.{whole_strict}
use Rattle.x509_der_parts.specs.Reading.{Cursor, Accepts, Refuses, Entered, tallied}
use Rattle.x509_der_parts.specs.FirstField.{BothTaken, FirstPart, StartsContent, both_fields, in_sequence}

-- both fields are read, or one of them is refused
module _ {V W : Type 0} (a : Shape V) (b : Shape W) (la : Lawful a) (lb : Lawful b) (apart : Apart a b) where
  whole_pair : (x y : V × W) → x.0 ≡ y.0 → x.1 ≡ y.1 → x ≡ y
  whole_pair = same_pair (λ j. j.0) (λ j. j.1) (λ v w. (v, w)) (λ x. refl)

  pub both_lawful : Lawful (both_fields a b)
  both_lawful = join_lawful a b la lb apart (λ j. j.0) (λ j. j.1) whole_pair

  pub both_accepts : (old mid new : Cursor) (j : V × W) → Accepts a old mid j.0 → Accepts b mid new j.1 → Accepts (both_fields a b) old new j
  both_accepts = join_accepts (λ (j : V × W). j.0) (λ j. j.1) whole_pair a b la lb apart

  pub both_first : (old new : Cursor) (e : ReadError) → Refuses a old new e → Refuses (both_fields a b) old new e
  both_first = join_first (λ (j : V × W). j.0) (λ j. j.1) whole_pair a b la lb apart

  pub both_second : (old mid new : Cursor) (v : V) (e : ReadError) → Accepts a old mid v → Refuses b mid new e → Refuses (both_fields a b) old new e
  both_second = join_second (λ (j : V × W). j.0) (λ j. j.1) whole_pair a b la lb apart

-- counts grow
tallied_within : (k : List ℕ) (ms : List Mark) (i : ℕ) → i < length k → get_or k i 0 ≤ get_or (tallied k ms) i 0
tallied_within k ms i h = omega (arith, tallied_at k i ms h)

tallied_past : (k : List ℕ) (ms : List Mark) (i : ℕ) → length k ≤ i → get_or k i 0 ≤ get_or (tallied k ms) i 0
tallied_past k ms i h = omega (arith, get_or-eq_default k 0 h)

pub tallied_grows : (k : List ℕ) (ms : List Mark) (i : ℕ) → get_or k i 0 ≤ get_or (tallied k ms) i 0
tallied_grows k ms i = ⊎_elim (λ h. tallied_within k ms i h) (λ h. tallied_past k ms i h) (cases_lt i (length k))

-- what was counted up to the end of the first field is no more than what was counted in all
pub both_grow : {V W : Type 0} (a : Shape V) (b : Shape W) (old new : Cursor) (v : V) (w : W) (place : ℕ) (counts all : List ℕ) → BothTaken a b old new v w place counts → all ≡ new.counts → (i : ℕ) → get_or counts i 0 ≤ get_or all i 0
both_grow a b old new v w place counts all h e i = rw (h.counted, e ∙ h.second.moved.counts) (tallied_grows h.mid.counts h.second.tally.marks i)

-- the content of an element, and where it stands
content_from : (t : ℕ) (c : List ℕ) → drop (header c) (element t c) ≡ c
unfolding element header
content_from t c = let e : length (digits (length c)) + 1 ≡ length (t ∷ digits (length c)) = omega arith in rw e (drop-append_seam (t ∷ digits (length c)) c)

no_marks : (ms : List Mark) → length ms ≡ 0 → ms ≡ []
no_marks [] e = refl
no_marks (m ∷ ms) e = absurd (omega (arith, e))

sum_none : (counts : List ℕ) (ms : List Mark) → counts ≡ counts_of ms → ms ≡ [] → sum counts ≡ 0
sum_none counts ms e n = ap sum e ∙ counts_sum ms ∙ ap length n

none_sum : (counts : List ℕ) (ms : List Mark) → counts ≡ counts_of ms → sum counts ≡ 0 → ms ≡ []
none_sum counts ms e n = no_marks ms (sym (counts_sum ms) ∙ sym (ap sum e) ∙ n)

module _ {T V W : Type 0} (view : T → V × W) (inj : (x y : T) → view x ≡ view y → x ≡ y) (a : Shape V) (b : Shape W) (la : Lawful a) (lb : Lawful b) (apart : Apart a b) where
  sequence_lawful : Lawful (in_sequence view a b)
  sequence_lawful = structure_lawful view (tagged 48 (both_fields a b)) inj (tagged_lawful 48 (both_fields a b) (both_lawful a b la lb apart))

  module _ (old inner end : Cursor) (after string : List ℕ) (from : old.rest ≡ string) (n : Entered 48 old inner after) where
    -- the reader went into the element that is the whole string
    pub first_part : (value : T) (j : V × W) (start place : ℕ) (slice counts others all : List ℕ) → view value ≡ j → old.at ≡ 0 → old.counts ≡ replicate 10 0 → BothTaken a b inner end j.0 j.1 place counts → end.rest ≡ [] → after ≡ [] → start ≡ inner.at → slice ≡ take (place - start) (drop start string) → all ≡ end.counts → Together others counts all → FirstPart view a b string value slice counts others
    first_part value j start place slice counts others all same zero none h done behind begins slice_is all_is sums =
        let f = h.first.bytes in
        let s = h.second.bytes in
        let y = h.first.tally in
        let z = h.second.tally in
        let c = f ++ s in
        let content : inner.rest ≡ c = h.first.moved.rest ∙ ap (λ x. f ++ x) (h.second.moved.rest ∙ ap (λ x. s ++ x) done ∙ append-nil s) in
        let bytes : string ≡ element 48 c = sym from ∙ n.bytes ∙ ap (λ x. element 48 inner.rest ++ x) behind ∙ append-nil (element 48 inner.rest) ∙ ap (element 48) content in
        let start_is : start ≡ header c = begins ∙ n.at ∙ ap (λ x. x + header inner.rest) zero ∙ ap (λ x. 0 + header x) content ∙ omega arith in
        let long : length f ≡ place - start = omega (arith, h.at, h.first.moved.at, begins) in
        let is : slice ≡ f = slice_is ∙ ap (λ x. take (place - start) (drop start x)) bytes ∙ ap (λ x. take (place - start) (drop x (element 48 c))) start_is ∙ ap (take (place - start)) (content_from 48 c) ∙ take_at f s (place - start) long in
        let part : Tally = joined (length f) y z in
        let tally : Tally = inside (header c) part in
        let A : V × W → Type 0 = λ x. a.spelled x.0 f y in
        let B : V × W → Type 0 = λ x. b.spelled x.1 s z in
        let fore = subst A (sym same) h.first.spelled in
        let aft = subst B (sym same) h.second.spelled in
        let spelled : (in_sequence view a b).spelled value string tally = record { content = c; part = part; spelled = record { front = f; back = s; first = y; second = z; fore = fore; aft = aft; bytes = refl; tally = refl }; bytes = bytes; tally = refl } in
        let wf = (la.places (view value).0 f y fore).within in
        let ws = (lb.places (view value).1 s z aft).within in
        let wc = ((both_lawful a b la lb apart).places (view value) c part spelled.spelled).within in
        let counted : counts ≡ counts_of y.marks = h.counted ∙ h.first.moved.counts ∙ ap (λ x. tallied x y.marks) (n.counts ∙ none) ∙ counts_are y.marks in
        let total : all ≡ counts_of tally.marks = all_is ∙ h.second.moved.counts ∙ ap (λ x. tallied x z.marks) (h.first.moved.counts ∙ ap (λ x. tallied x y.marks) (n.counts ∙ none)) ∙ sym (tallied_joined (length f) (replicate 10 0) y z) ∙ sym (tallied_inside (header c) (replicate 10 0) part) ∙ counts_are tally.marks in
        let w = strict_where a la (view value).0 f y fore in
        let P : List ℕ → Type 0 = λ x. FirstPart view a b string value x counts others in
        subst P (sym is) (record {
          tally = tally;
          whole = whole_strict (in_sequence view a b) sequence_lawful value string tally spelled;
          after = s;
          bytes = bytes;
          part = y;
          spelled = fore;
          rest = z;
          behind = aft;
          stands = first_there string tally (header c) c part (part_content 48 c string part tally bytes refl wc) f s y z refl refl wf ws;
          strict = (λ e. sum_none counts y.marks counted (w.0 e), λ e. w.1 (none_sum counts y.marks counted e));
          counted = counted;
          sums = λ k. omega (arith, sums k, ap (λ x. get_or x k 0) total);
        })

    -- where the content begins, of the SEQUENCE that the string is
    pub content_starts : (start : ℕ) → old.at ≡ 0 → start ≡ inner.at → StartsContent string start
    content_starts start zero begins c e =
        let k = element_one 48 48 inner.rest c after [] (sym n.bytes ∙ from ∙ e ∙ sym (append-nil (element 48 c))) in
        begins ∙ n.at ∙ ap (λ x. x + header inner.rest) zero ∙ ap (λ x. 0 + header x) k.content ∙ omega arith

    -- where the first field begins and ends
    pub places_in : (j : V × W) (start place : ℕ) (counts : List ℕ) → old.at ≡ 0 → BothTaken a b inner end j.0 j.1 place counts → start ≡ inner.at → (start ≤ place) × (place ≤ length string)
    places_in j start place counts zero h begins =
        let m = h.first.moved in (
          omega (arith, h.at, m.at, begins),
          omega (arith, h.at, m.at, n.at, zero, ap length from, ap length n.bytes, length-append (element 48 inner.rest) after, element_length 48 inner.rest, ap length m.rest, length-append h.first.bytes h.mid.rest),
        )

    -- a content that is refused
    pub none_refused : (e : ReadError) → Refuses (both_fields a b) inner end e → NoWhole (in_sequence view a b) string e
    none_refused e x m v y i =
        let k = element_one 48 48 inner.rest i.content after [] (sym n.bytes ∙ from ∙ i.bytes ∙ sym (append-nil (element 48 i.content))) in
        m (x.none (view v) i.content [] i.part i.spelled (k.content ∙ sym (append-nil i.content)) tt).memory

    -- a content that takes no memory
    pub spares_memory : (e : ReadError) → old.places ≡ None → Refuses (both_fields a b) inner end e → a.frugal → b.frugal → e ≡ OutOfMemory → ⊥
    spares_memory e o x f h = x.spares (f, h) (n.places ∙ o)

    -- bytes behind the fields
    pub none_more : (j : V × W) (place : ℕ) (counts : List ℕ) (e : ReadError) → BothTaken a b inner end j.0 j.1 place counts → (end.rest ≡ [] → ⊥) → NoWhole (in_sequence view a b) string e
    none_more j place counts e h more m v y i =
        let x = both_accepts a b la lb apart inner h.mid end j h.first h.second in
        let k = element_one 48 48 inner.rest i.content after [] (sym n.bytes ∙ from ∙ i.bytes ∙ sym (append-nil (element 48 i.content))) in
        let o = x.only (view v) i.content [] i.part i.spelled (k.content ∙ sym (append-nil i.content)) tt in
        more (append_cancel_left x.bytes end.rest [] (sym x.moved.rest ∙ k.content ∙ o.bytes ∙ sym (append-nil x.bytes)))

    -- bytes behind the element
    pub none_behind : (e : ReadError) → (after ≡ [] → ⊥) → NoWhole (in_sequence view a b) string e
    none_behind e more m v y i = more (element_one 48 48 inner.rest i.content after [] (sym n.bytes ∙ from ∙ i.bytes ∙ sym (append-nil (element 48 i.content)))).rest

  -- no SEQUENCE
  pub none_entered : (old : Cursor) (string : List ℕ) (e : ReadError) → old.rest ≡ string → ((c q : List ℕ) → old.rest ≡ element 48 c ++ q → ⊥) → NoWhole (in_sequence view a b) string e
  none_entered old string e from n m v y i = n i.content [] (from ∙ i.bytes ∙ sym (append-nil (element 48 i.content)))

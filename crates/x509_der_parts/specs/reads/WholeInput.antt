-- Reading all that is left, and so a whole input.
use Rattle.std.proofs.Common.{◌≡◌, ℕ, ◌+◌, ◌≤◌, false, List, [], ◌++◌, length, map, sum, refl, sym, ap, subst, ◌∙◌, arith, append-nil, length-append, Some, None}
use Rattle.std.specs.Prelude.{Result, Ok, Err, replicate, IfErr}
use Rattle.std.proofs.lemmas.List.{append_cancel_left}
use Rattle.x509_der_parts.specs.declared.errors.ReadError.{ReadError}
use Rattle.x509_der_parts.specs.declared.errors.ReadError.TheVariants.{OutOfMemory, LeftOver}
use Rattle.x509_der_parts.specs.Tally.{Tally, Mark, moved}
use Rattle.x509_der_parts.specs.facts.Tally.{map-moved_zero}
use Rattle.x509_der_parts.specs.reads.Counts.{counts_are, counts_sum}
use Rattle.x509_der_parts.specs.facts.MarkOrder.{placing_same}
use Rattle.x509_der_parts.specs.Shape.{Shape, Lawful}
use Rattle.x509_der_parts.specs.facts.Fields.{strict_where}
use Rattle.x509_der_parts.specs.Calls.{IsWhole, CountedRead, MeteredRead, Located, ReadsAll, RefusesAll, TakesAll, GotTo}
use Rattle.x509_der_parts.specs.Reading.{Cursor, Accepts, Refuses, ForMemory, tallied, placed}
use Rattle.x509_der_parts.specs.laws.RawElement.{follows_free}
use Rattle.x509_der_parts.specs.reads.Standing.{stays}

-- anything may follow
abbrev pub Free : {V : Type 0} → Shape V → Type 0
Free s = (c : ℕ) → s.avoids c ≡ false

module _ {V : Type 0} (s : Shape V) (l : Lawful s) where
  pub whole_strict : (v : V) (string : List ℕ) (y : Tally) → s.spelled v string y → IsWhole s string v y
  whole_strict v string y b = record { spelled = b; strict = strict_where s l v string y b }

module _ {V : Type 0} (s : Shape V) (l : Lawful s) (free : Free s) where
  pub takes_all : (old new : Cursor) (v : V) → Accepts s old new v → new.rest ≡ [] → TakesAll s old new v
  takes_all old new v a e =
      let whole : old.rest ≡ a.bytes = a.moved.rest ∙ ap (λ x. a.bytes ++ x) e ∙ append-nil a.bytes in
      let P : List ℕ → Type 0 = λ x. s.spelled v x a.tally in
      record { accepts = a; ends = e; whole = whole_strict s l v old.rest a.tally (subst P (sym whole) a.spelled) }

  left_nothing : (old new : Cursor) (v : V) → Accepts s old new v → (w : V) (y : Tally) → s.spelled w old.rest y → new.rest ≡ []
  left_nothing old new v a w y i =
      let o = a.only w old.rest [] y i (sym (append-nil old.rest)) tt in
      append_cancel_left a.bytes new.rest [] (sym a.moved.rest ∙ o.bytes ∙ sym (append-nil a.bytes))

  pub left_over_all : (old new : Cursor) (v : V) → Accepts s old new v → (new.rest ≡ [] → ⊥) → RefusesAll s old new LeftOver
  left_over_all old new v a n =
      let m = a.moved in
      let nm : LeftOver ≡ OutOfMemory → ⊥ = λ e. cc in
      record {
        spares = λ f p. nm;
        bound = omega (arith, m.headers, l.cost v a.bytes a.tally a.spelled, ap length m.rest, length-append a.bytes new.rest);
        min_headers = λ x k i. omega (arith, m.headers, a.min_headers k i);
        none = λ x w y i. n (left_nothing old new v a w y i);
        marked = λ f w y i c. n (left_nothing old new v a w y i);
        within = omega (arith, m.at, ap length m.rest, length-append a.bytes new.rest);
        outside = λ f. (stays s l old new v a f).1;
        behind = λ k w p q y i g o. (refl, m.at ∙ ap (λ x. old.at + length x) (sym (a.only w p q y i g (follows_free s.avoids free q)).bytes));
      }

pub refuses_all : {V : Type 0} (s : Shape V) → Free s → (old new : Cursor) (e : ReadError) → Refuses s old new e → RefusesAll s old new e
refuses_all s free old new e a =
    let here : (v : _) (y : Tally) → s.spelled v old.rest y → ForMemory s e y = λ v y i. a.none v old.rest [] y i (sym (append-nil old.rest)) tt in
    record {
      spares = a.spares;
      bound = a.bound;
      min_headers = a.min_headers;
      none = λ m v y i. m (here v y i).memory;
      marked = λ f v y i. (here v y i).marked f;
      within = a.within;
      outside = a.outside;
      behind = λ m v p q y i g o. absurd (m (a.none v p q y i g (follows_free s.avoids free q)).memory);
    }

-- of a whole input
pub frugal_whole : {V : Type 0} (s : Shape V) (old new : Cursor) (r : Result V ReadError) → old.places ≡ None → ReadsAll s old new r → s.frugal → IfErr r (λ e. e ≡ OutOfMemory → ⊥)
frugal_whole s old new (Ok v) n a f = tt
frugal_whole s old new (Err e) n a f = a.spares f n

pub counted_whole : {V : Type 0} (s : Shape V) (old new : Cursor) (string counts : List ℕ) (v : V) → old.rest ≡ string → old.counts ≡ replicate 10 0 → counts ≡ new.counts → TakesAll s old new v → CountedRead s string (Ok (v, counts))
counted_whole s old new string counts v f k c a = record {
  tally = a.accepts.tally;
  whole = rw (← f) a.whole;
  counted = c ∙ a.accepts.moved.counts ∙ ap (λ x. tallied x a.accepts.tally.marks) k ∙ counts_are a.accepts.tally.marks;
  total = ap sum (c ∙ a.accepts.moved.counts ∙ ap (λ x. tallied x a.accepts.tally.marks) k ∙ counts_are a.accepts.tally.marks) ∙ counts_sum a.accepts.tally.marks;
}

pub metered_whole : {V : Type 0} (s : Shape V) → Lawful s → (old new : Cursor) (string counts : List ℕ) (headers : ℕ) (v : V) → old.rest ≡ string → old.headers ≡ 0 → old.counts ≡ replicate 10 0 → counts ≡ new.counts → headers ≡ new.headers → TakesAll s old new v → MeteredRead s string (Ok (v, counts)) headers
metered_whole s l old new string counts headers v f z k c h a =
    let m = a.accepts.moved in
    let y = a.accepts.tally in
    let b : s.spelled v string y = rw (← f) a.whole.spelled in
    let few = l.few v string y b in
    let total : sum counts ≡ length y.marks = ap sum (c ∙ m.counts ∙ ap (λ x. tallied x y.marks) k ∙ counts_are y.marks) ∙ counts_sum y.marks in (
      λ x i.
          let o = l.one v v string string [] [] y x b i refl tt tt in
          omega (arith, h, m.headers, z, ap (λ (x : Tally). x.headers) o.tally),
      omega (arith, h, m.headers, z, few, total),
    )

pub metered_none : {V : Type 0} (s : Shape V) (old new : Cursor) (string : List ℕ) (headers : ℕ) (e : ReadError) → old.rest ≡ string → old.headers ≡ 0 → headers ≡ new.headers → RefusesAll s old new e → (e ≡ OutOfMemory → ⊥) → (n : ℕ) → s.min_headers string n → n ≤ headers
metered_none s old new string headers e f z h a m n i = let P : List ℕ → Type 0 = λ x. s.min_headers x n in omega (arith, h, z, a.min_headers m n (subst P (sym f) i))

pub located_whole : {V : Type 0} (s : Shape V) (l : Lawful s) (old new : Cursor) (string : List ℕ) (v : V) (places : List Mark) → old.rest ≡ string → old.at ≡ 0 → old.places ≡ Some [] → new.places ≡ Some places → TakesAll s old new v → Located s string v places
located_whole s l old new string v places f z o n a =
    let b = a.accepts in
    let h : Some places ≡ Some (map (moved 0) b.tally.marks) = sym n ∙ b.moved.places ∙ ap (λ x. placed x old.places b.tally.marks) z ∙ ap (λ x. placed 0 x b.tally.marks) o in
    let g : places ≡ map (moved 0) b.tally.marks = cc in
    let m : places ≡ b.tally.marks = g ∙ map-moved_zero b.tally.marks in
    let w : IsWhole s string v b.tally = rw (← f) a.whole in
    record { tally = b.tally; whole = w; marks = m; placing = placing_same (length string) (length string) places b.tally.marks refl m (l.places v string b.tally w.spelled) }

pub not_located : {V : Type 0} (s : Shape V) (old new : Cursor) (v : V) → old.places ≡ Some [] → new.places ≡ None → TakesAll s old new v → ⊥
not_located s old new v o n a =
    let b = a.accepts in
    let h : None ≡ Some (map (moved old.at) b.tally.marks) = sym n ∙ b.moved.places ∙ ap (λ x. placed old.at x b.tally.marks) o in
    cc

pub got_to : {V : Type 0} (s : Shape V) (old new : Cursor) (string : List ℕ) (e : ReadError) → old.rest ≡ string → old.at ≡ 0 → RefusesAll s old new e → GotTo s string e new.at
got_to s old new string e f z a = record {
  within = omega (arith, a.within, z, ap length f);
  outside = λ h. a.outside (rw f h) ∙ z;
  behind = λ m v p q y i g o. let b = a.behind m v p q y i (f ∙ g) o in (b.0, omega (arith, b.1, z));
}

-- Parts of a line, one behind the other.
use Rattle.std.specs.Prelude.{◌≡◌, ℕ, ◌+◌, ◌-◌, ◌^◌, ◌<◌, ◌≤◌, min, List, [], ◌++◌, Bool, true, false, Option, Some, None, IfSome, OnSome, nat_lt, length, take, slice_index, refl}
use Rattle.std.proofs.Common.{sym, subst, ap, ◌∙◌, arith, inl, inr}
use Rattle.std.proofs.KnownBytes.{Consumes-trans}
use Rattle.std.proofs.lemmas.Bool.Decides.{nat_tests}
use Rattle.std.proofs.lemmas.List.Elements.{All-nil, All-append, All-from_get_or}
use Rattle.std.proofs.lemmas.List.{take_more, length-take-le, get_or-take}
use Rattle.std.specs.Io.KnownBytes.{Keeps, Consumes, IsAtEnd}
use Rattle.std.specs.Io.{StartsWith}
use Rattle.std.specs.Io.BufRead.{DropsConsumable}
use Rattle.std.proofs.BufReadLemmas.{Consumes_shown, zero_unless_positive}
use Rattle.x509_pem.specs.Part.{Counted, IsPart, IsHeld, Measures, Fills, Filling, DropsLine}
use Rattle.x509_pem.specs.Text.{is_line_end, line_of, behind_line, IsInner}
use Rattle.x509_pem.specs.declared.fault.Fault.{Fault}
use Rattle.x509_pem.specs.declared.lines.Measure.{Measure}
use Rattle.x509_pem.specs.declared.lines.Part.{Part}
use Rattle.x509_pem.proofs.TextLines.{line_of_append, behind_line_append, line_of_none, part_of_line}

-- what an addition of measures says
abbrev pub Sums : Measure → Measure → Measure → Type 0
Sums a b sum = (line bytes : List ℕ) → Measures a line → Measures b bytes → Measures sum (line ++ bytes)

pub filled_none : (longest : ℕ) (start : Option (List ℕ)) (held : List ℕ) (measure : Measure) → held ≡ [] → Measures measure []
    → Filling longest start start None held measure
filled_none longest start held measure empty is =
    ([], consumes start, All-nil (λ x. is_line_end x ≡ false), (empty, omega arith), is)
  where
    consumes : (o : Option (List ℕ)) → Consumes o o []
    consumes None = tt
    consumes (Some xs) = refl

pub filled_more : (longest : ℕ) (start left after : Option (List ℕ)) (lack lack' : Option Fault) (held held' : List ℕ)
    (measure sum : Measure) (part : Part) → Filling longest start left lack held measure → part.is_done ≡ false
    → Fills longest part left after lack held lack' held' → Sums measure part.measure sum → Filling longest start after lack' held' sum
filled_more longest start left after lack lack' held held' measure sum part w is f sums =
    let Q : Bool → Type 0 = λ b. IsPart b f.0 in (
      w.0 ++ f.0,
      Consumes-trans start left after w.0 f.0 w.1 f.1,
      All-append (λ x. is_line_end x ≡ false) w.0 f.0 w.2 (subst Q is f.2),
      f.5 w.0 w.3,
      sums w.0 f.0 w.4 f.3,
    )

-- parts of a line, and then its last part
consumed_line : (a b c : Option (List ℕ)) (done part : List ℕ) → Consumes a b done → IsInner done → Consumes b c part → IsPart true part
    → (length part ≡ 0 → OnSome b (IsAtEnd c)) → IfSome a (λ text. done ++ part ≡ line_of text) × DropsLine a c
consumed_line None b c done part p all q is none = (tt, tt)
consumed_line (Some x) None c done part p all q is none = absurd p
consumed_line (Some x) (Some y) None done part p all q is none = absurd q
consumed_line (Some x) (Some y) (Some z) done part p all q is none =
    let last = part_of_line part z is none in (
      sym (ap line_of p ∙ line_of_append done y all ∙ ap (λ l. done ++ l) (ap line_of q ∙ last.0)),
      ap Some (sym (ap behind_line p ∙ behind_line_append done y all ∙ ap behind_line q ∙ last.1)),
    )

-- a line that was gone past
pub record Passed (longest : ℕ) (start after : Option (List ℕ)) (lack : Option Fault) (held : List ℕ) (measure : Measure) : Type 0 where
  pub line : List ℕ
  pub first : IfSome start (λ text. line ≡ line_of text)
  pub left : DropsLine start after
  pub held_is : IsHeld longest lack held line
  pub measured : Measures measure line

pub filled_whole : (longest : ℕ) (start left after : Option (List ℕ)) (lack lack' : Option Fault) (held held' : List ℕ)
    (measure sum : Measure) (part : Part) → Filling longest start left lack held measure → part.is_done ≡ true
    → Fills longest part left after lack held lack' held' → Sums measure part.measure sum → Passed longest start after lack' held' sum
filled_whole longest start left after lack lack' held held' measure sum part w is f sums =
    let Q : Bool → Type 0 = λ b. IsPart b f.0 in
    let both = consumed_line start left after w.0 f.0 w.1 w.2 f.1 (subst Q is f.2) (f.4 is) in
    record {
      line = w.0 ++ f.0;
      first = both.0;
      left = both.1;
      held_is = f.5 w.0 w.3;
      measured = sums w.0 f.0 w.4 f.3;
    }

pub passed_held : (longest : ℕ) (start after : Option (List ℕ)) (lack : Option Fault) (held : List ℕ) (measure : Measure)
    → Passed longest start after lack held measure → IfSome start (λ text. IsHeld longest lack held (line_of text))
passed_held longest None after lack held measure p = tt
passed_held longest (Some text) after lack held measure p =
    let P : List ℕ → Type 0 = λ l. IsHeld longest lack held l in subst P p.first p.held_is

pub passed_end : (longest : ℕ) (start after : Option (List ℕ)) (lack : Option Fault) (held : List ℕ) (measure : Measure)
    → Passed longest start after lack held measure → IfSome start (λ text. nat_lt 0 measure.len ≡ false → text ≡ [])
passed_end longest None after lack held measure p = tt
passed_end longest (Some text) after lack held measure p = λ is.
    let len = p.measured.0 in
    let none : measure.len ≤ 0 = grind (arith, nat_tests, is) in
    line_of_none text (sym (ap length p.first) ∙ zero_min (length p.line) (omega (arith, len, none)))
  where
    zero_min : (n : ℕ) → min n (2 ^ 64 - 1) ≡ 0 → n ≡ 0
    zero_min n h = omega (arith, h)

pub passed_number : (longest : ℕ) (start after : Option (List ℕ)) (lack : Option Fault) (held : List ℕ) (measure : Measure)
    (some : Bool) (n n' m : ℕ) (r r' s : Bool) → Passed longest start after lack held measure → n' ≡ n → r' ≡ r
    → ((bytes : List ℕ) → Measures measure bytes → Counted some bytes n' r' m s) → IfSome start (λ text. Counted some (line_of text) n r m s)
passed_number longest None after lack held measure some n n' m r r' s p en er h = tt
passed_number longest (Some text) after lack held measure some n n' m r r' s p en er h =
    let P : List ℕ → Type 0 = λ l. Counted some l n r m s in
    let N : ℕ → Type 0 = λ k. Counted some p.line k r m s in
    let R : Bool → Type 0 = λ b. Counted some p.line n' b m s in
    subst P p.first (subst N en (subst R er (h p.line p.measured)))

-- a part up to the first byte that ends a line
pub part_ended : (s : List ℕ) (at : ℕ) → at < length s → ((k : ℕ) → k < at → ¬ (is_line_end (slice_index s k) ≡ true))
    → is_line_end (slice_index s at) ≡ true → IsPart true (take (at + 1) s)
part_ended s at below none ends =
    inr (
      take at s,
      slice_index s at,
      take_more s at 0 below,
      All-from_get_or (λ x. is_line_end x ≡ false) (take at s) 0
          (λ i fits.
          let inside : i < at = omega (arith, fits, length-take-le at s (omega arith)) in
          ap is_line_end (get_or-take at s i 0 inside) ∙ not_true (is_line_end (slice_index s i)) (none i inside)),
      ends,
    )
  where
    not_true : (b : Bool) → ¬ (b ≡ true) → b ≡ false
    not_true true h = absurd (h refl)
    not_true false h = refl

-- where no byte ends a line, all is a part, which is the last where it is empty
pub part_inner : (s : List ℕ) (done : Bool) → (done ≡ true → s ≡ []) → ((k : ℕ) → k < length s → ¬ (is_line_end (slice_index s k) ≡ true))
    → IsPart done s
part_inner s true empty none = inl (empty refl)
part_inner s false empty none =
    All-from_get_or (λ x. is_line_end x ≡ false) s 0 (λ i fits. not_true (is_line_end (slice_index s i)) (none i fits))
  where
    not_true : (b : Bool) → ¬ (b ≡ true) → b ≡ false
    not_true true h = absurd (h refl)
    not_true false h = refl

-- a part that was shown and consumed
pub part_taken : (longest : ℕ) (before between after : Option (List ℕ)) (buffered : Option ℕ) (shown : List ℕ) (n : ℕ) (part : Part)
    (lack lack' : Option Fault) (held held' : List ℕ) → n ≤ length shown → (0 < length shown → 0 < n)
    → IsPart part.is_done (take n shown) → Measures part.measure (take n shown)
    → IfSome before (λ xs. StartsWith xs shown) → IfSome before (λ xs. length shown ≡ 0 → xs ≡ []) → Keeps before between
    → IfSome before (λ _. IfSome buffered (λ k. length shown ≤ k)) → DropsConsumable between after buffered n
    → ((line : List ℕ) → IsHeld longest lack held line → IsHeld longest lack' held' (line ++ take n shown))
    → Fills longest part before after lack held lack' held'
part_taken longest before between after buffered shown n part lack lack' held held' within some is measured front end kept fits drops holds =
    let taken = Consumes_shown before between after buffered shown n within front end kept fits drops in
    (take n shown, taken.0, is, measured, λ done none. taken.1 (zero_unless_positive (length shown) n some (sym (length-take-le n shown within) ∙ none)), holds)

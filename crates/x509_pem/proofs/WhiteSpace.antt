-- Text without its white space, and what is trimmed.
use Rattle.std.proofs.Common.{◌≡◌, ℕ, suc, ◌+◌, ◌-◌, ◌<◌, ◌≤◌, List, [], ◌∷◌, ◌++◌, Bool, true, false, cond, take, drop, length, slice_index, refl, sym, ap, ◌∙◌, arith, append_assoc}
use Rattle.std.proofs.lemmas.List.{append-nil, length-append, take-append-drop, length-take-le, length-drop, drop-drop, get_or-take, get_or-drop, take_more}
use Rattle.std.proofs.lemmas.List.Elements.{All-head, All-tail, All-from_get_or}
use Rattle.x509_pem.specs.Line.{IsTrimmed}
use Rattle.x509_pem.specs.Text.{is_white, IsWhite, solid}

pub solid_append : (a b : List ℕ) → solid (a ++ b) ≡ solid a ++ solid b
solid_append [] b = refl
solid_append (x ∷ a) b = at (is_white x) (solid_append a b)
  where
    at : (w : Bool) → solid (a ++ b) ≡ solid a ++ solid b
        → cond w (solid (a ++ b)) (x ∷ solid (a ++ b)) ≡ cond w (solid a) (x ∷ solid a) ++ solid b
    at true e = e
    at false e = ap (λ l. x ∷ l) e

pub solid_white : (a : List ℕ) → IsWhite a → solid a ≡ []
solid_white [] h = refl
solid_white (x ∷ a) h =
    ap (λ w. cond w (solid a) (x ∷ solid a)) (All-head (λ y. is_white y ≡ true) x a h)
    ∙ solid_white a (All-tail (λ y. is_white y ≡ true) x a h)

-- what is trimmed away has no symbol
pub solid_trimmed : (s r : List ℕ) → IsTrimmed s r → solid s ≡ solid r
solid_trimmed s r t =
    ap solid t.joined ∙ solid_append t.before (r ++ t.after) ∙ ap (λ l. l ++ solid (r ++ t.after)) (solid_white t.before t.white_before)
    ∙ solid_append r t.after ∙ ap (λ l. solid r ++ l) (solid_white t.after t.white_after) ∙ append-nil (solid r)

-- text that has none is itself
pub solid_all : (a : List ℕ) → ((i : ℕ) → is_white (slice_index a i) ≡ false) → solid a ≡ a
solid_all [] h = refl
solid_all (x ∷ a) h = ap (λ w. cond w (solid a) (x ∷ solid a)) (h 0) ∙ ap (λ l. x ∷ l) (solid_all a (λ i. h (suc i)))

-- the front of a text has no more
pub solid_front : (s : List ℕ) (i : ℕ) → length (solid (take i s)) ≤ length (solid s)
solid_front s i =
    omega (
      arith,
      ap (λ l. length (solid l)) (take-append-drop i s),
      ap length (solid_append (take i s) (drop i s)),
      length-append (solid (take i s)) (solid (drop i s)),
    )

-- one byte more, by whether it is white space
pub solid_more : (s : List ℕ) (i : ℕ) (w : Bool) → i < length s → is_white (slice_index s i) ≡ w
    → solid (take (i + 1) s) ≡ solid (take i s) ++ cond w [] (slice_index s i ∷ [])
solid_more s i w h white =
    ap solid (take_more s i 0 h) ∙ solid_append (take i s) (slice_index s i ∷ [])
    ∙ ap (λ v. solid (take i s) ++ cond v [] (slice_index s i ∷ [])) white

-- behind what was appended so far
pub appended_more : (old text new s : List ℕ) (i : ℕ) (w : Bool) → i < length s → is_white (slice_index s i) ≡ w
    → text ≡ old ++ solid (take i s) → new ≡ text ++ cond w [] (slice_index s i ∷ []) → new ≡ old ++ solid (take (i + 1) s)
appended_more old text new s i w h white so grown =
    grown ∙ ap (λ l. l ++ cond w [] (slice_index s i ∷ [])) so ∙ append_assoc old (solid (take i s)) (cond w [] (slice_index s i ∷ []))
    ∙ ap (λ l. old ++ l) (sym (solid_more s i w h white))

-- what was appended so far, and a byte that may not have found room
pub appended_bound : (old text new s : List ℕ) (i : ℕ) → i < length s → is_white (slice_index s i) ≡ false
    → text ≡ old ++ solid (take i s) → length new ≤ length text + 1 → length new ≤ length old + length (solid s)
appended_bound old text new s i h other so grown =
    let more : length (solid (take (i + 1) s)) ≡ length (solid (take i s)) + 1 =
    ap length (solid_more s i false h other) ∙ length-append (solid (take i s)) (slice_index s i ∷ []) in
    let before : length text ≡ length old + length (solid (take i s)) = ap length so ∙ length-append old (solid (take i s)) in
    omega (arith, more, before, grown, solid_front s (i + 1))

-- what stands between white space at both ends
pub trimmed_between : (s : List ℕ) (m n : ℕ) → m ≤ n → n ≤ length s → ((k : ℕ) → k < m → is_white (slice_index s k) ≡ true)
    → ((k : ℕ) → n ≤ k → k < length s → is_white (slice_index s k) ≡ true) → (m < length s → is_white (slice_index s m) ≡ false)
    → (m < n → is_white (slice_index s (n - 1)) ≡ false) → IsTrimmed s (take (n - m) (drop m s))
trimmed_between s m n low high front back first last =
    let rest : List ℕ = drop m s in
    let len : length rest ≡ length s - m = length-drop m s in
    let inner : length (take (n - m) rest) ≡ n - m = length-take-le (n - m) rest (omega (arith, len)) in
    let total : m + (n - m) ≡ n = omega arith in
    let tail : drop (n - m) rest ≡ drop n s = drop-drop (n - m) m s ∙ ap (λ k. drop k s) total in
    record {
      before = take m s;
      after = drop n s;
      joined = sym (take-append-drop m s) ∙ ap (λ l. take m s ++ l) (sym (take-append-drop (n - m) rest) ∙ ap (λ l. take (n - m) rest ++ l) tail);
      white_before =
          All-from_get_or (λ x. is_white x ≡ true) (take m s) 0
          (λ i below.
          let inside : i < m = omega (arith, below, length-take-le m s (omega arith)) in
          ap is_white (get_or-take m s i 0 inside) ∙ front i inside);
      white_after =
          All-from_get_or (λ x. is_white x ≡ true) (drop n s) 0
          (λ i below.
          ap is_white (get_or-drop n s i 0) ∙ back (n + i) (omega arith) (omega (arith, below, length-drop n s)));
      first = λ some.
          let zero_at : m + 0 ≡ m = omega arith in
          ap is_white (get_or-take (n - m) rest 0 0 (omega (arith, some, inner)) ∙ get_or-drop m s 0 0 ∙ ap (λ k. slice_index s k) zero_at)
          ∙ first (omega (arith, some, inner));
      last = λ some.
          let there : m + (length (take (n - m) rest) - 1) ≡ n - 1 = omega (arith, some, inner) in
          ap is_white (get_or-take (n - m) rest (length (take (n - m) rest) - 1) 0 (omega (arith, some, inner))
          ∙ get_or-drop m s (length (take (n - m) rest) - 1) 0 ∙ ap (λ k. slice_index s k) there)
          ∙ last (omega (arith, some, inner));
    }

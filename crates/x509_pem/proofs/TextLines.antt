-- The first line of a text that is made of parts.
use Rattle.std.specs.Prelude.{◌≡◌, ℕ, ◌<◌, ◌≤◌, take, drop, List, [], ◌∷◌, ◌++◌, Bool, true, false, cond, length, refl}
use Rattle.std.proofs.Common.{sym, ◌∙◌, ap, arith, inl, inr, append_assoc, append-nil, subst}
use Rattle.std.proofs.BufReadLemmas.{zero_unless_positive}
use Rattle.std.proofs.lemmas.List.{length-drop, length-take-le, nil_from_length, take-append-drop, take_all}
use Rattle.std.proofs.lemmas.List.Elements.{All-head, All-tail}
use Rattle.x509_pem.specs.Part.{IsPart}
use Rattle.x509_pem.specs.Text.{is_line_end, line_of, behind_line, IsInner}

Inner : ℕ → Type 0
Inner x = is_line_end x ≡ false

-- a front in which no line ends is taken whole
pub line_of_append : (xs ys : List ℕ) → IsInner xs → line_of (xs ++ ys) ≡ xs ++ line_of ys
line_of_append [] ys h = refl
line_of_append (x ∷ xs) ys h =
    ap (λ b. cond b (x ∷ []) (x ∷ line_of (xs ++ ys))) (All-head (λ y. is_line_end y ≡ false) x xs h)
    ∙ ap (λ l. x ∷ l) (line_of_append xs ys (All-tail (λ y. is_line_end y ≡ false) x xs h))

-- and dropped whole
pub behind_line_append : (xs ys : List ℕ) → IsInner xs → behind_line (xs ++ ys) ≡ behind_line ys
behind_line_append [] ys h = refl
behind_line_append (x ∷ xs) ys h =
    ap (λ b. cond b (xs ++ ys) (behind_line (xs ++ ys))) (All-head (λ y. is_line_end y ≡ false) x xs h)
    ∙ behind_line_append xs ys (All-tail (λ y. is_line_end y ≡ false) x xs h)

-- a line with its end is the first of what it begins
pub line_of_ended : (xs : List ℕ) (end : ℕ) (rest : List ℕ) → IsInner xs → is_line_end end ≡ true
    → line_of (xs ++ end ∷ rest) ≡ xs ++ end ∷ []
line_of_ended xs end rest h e =
    line_of_append xs (end ∷ rest) h ∙ ap (λ b. xs ++ cond b (end ∷ []) (end ∷ line_of rest)) e

pub behind_line_ended : (xs : List ℕ) (end : ℕ) (rest : List ℕ) → IsInner xs → is_line_end end ≡ true
    → behind_line (xs ++ end ∷ rest) ≡ rest
behind_line_ended xs end rest h e =
    behind_line_append xs (end ∷ rest) h ∙ ap (λ b. cond b rest (behind_line rest)) e

-- only an empty text has an empty line
pub line_of_none : (xs : List ℕ) → length (line_of xs) ≡ 0 → xs ≡ []
line_of_none [] none = refl
line_of_none (x ∷ xs) none = absurd (at (is_line_end x) none)
  where
    at : (b : Bool) → length (cond b (x ∷ []) (x ∷ line_of xs)) ≡ 0 → ⊥
    at true h = omega arith
    at false h = omega arith

-- the last part of a line is what a read takes
pub part_of_line : (part rest : List ℕ) → IsPart true part → (length part ≡ 0 → rest ≡ [])
    → (line_of (part ++ rest) ≡ part) × (behind_line (part ++ rest) ≡ rest)
part_of_line part rest is none = elim is [
  | inl empty ↦
      let nothing : rest ≡ [] = none (ap length empty) in
      let both : part ++ rest ≡ [] = ap (λ l. l ++ rest) empty ∙ nothing in
      (ap line_of both ∙ sym empty, ap behind_line both ∙ sym nothing)
  | inr some ↦
      let joined : part ++ rest ≡ some.0 ++ some.1 ∷ rest =
      ap (λ l. l ++ rest) some.2 ∙ append_assoc some.0 (some.1 ∷ []) rest in (
        ap line_of joined ∙ line_of_ended some.0 some.1 rest some.3 some.4 ∙ sym some.2,
        ap behind_line joined ∙ behind_line_ended some.0 some.1 rest some.3 some.4,
      )
]

-- the first part of a text, where it has the end of a line or is the whole, is its first line
pub first_part : (s : List ℕ) (n : ℕ) (done : Bool) → n ≤ length s → (0 < length s → 0 < n) → (done ≡ false → n ≡ length s)
    → IsPart done (take n s) → (take n s ≡ line_of s) × (drop n s ≡ behind_line s)
first_part s n true within some all is =
    let joined = take-append-drop n s in
    let none : length (take n s) ≡ 0 → drop n s ≡ [] =
    λ empty. nil_from_length (drop n s) (omega (
      arith,
      length-drop n s,
      zero_unless_positive (length s) n some (sym (length-take-le n s within) ∙ empty),
    )) in
    let both = part_of_line (take n s) (drop n s) is none in
    (sym both.0 ∙ ap line_of joined, sym both.1 ∙ ap behind_line joined)
first_part s n false within some all is =
    let len = all refl in
    let whole : take n s ≡ s = take_all n s (omega (arith, len)) in
    let inner : IsInner s = subst IsInner whole is in
    let nothing : drop n s ≡ [] = nil_from_length (drop n s) (omega (arith, len, length-drop n s)) in (
      whole ∙ sym (ap line_of (sym (append-nil s)) ∙ line_of_append s [] inner ∙ append-nil s),
      nothing ∙ sym (ap behind_line (sym (append-nil s)) ∙ behind_line_append s [] inner),
    )

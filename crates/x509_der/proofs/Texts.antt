-- Dotted text: how it grows by an arc, and that it is cut at its points.
use Rattle.std.proofs.Common.{◌≡◌, ◌≢◌, ℕ, zero, suc, ◌<◌, ◌+◌, ◌^◌, false, eqb, List, [], ◌∷◌, ◌++◌, map, length, get_or, take, Result, Ok, Err, MatchOption, refl, sym, ap, ◌∙◌, subst, arith, append_assoc, lit<}
use Rattle.std.specs.List.{join_with_byte, slice_split, All}
use Rattle.std.specs.Fmt.{decimal}
use Rattle.std.specs.Result.{result_ok}
use Rattle.std.specs.Int.{IsInRange}
use Rattle.std.specs.Str.Parse.{AllDigits, digits_value, ParsesUnsigned}
use Rattle.std.proofs.lemmas.Fmt.{digits_decimal, digits_value-decimal, decimal-digits_value, decimal_nonempty, first_decimal, decimal_digit, decimal_injective}
use Rattle.std.proofs.lemmas.Str.Parse.{IsNumeralModel, numerals_by_value, tells_digits, parse_plain, not_in_digits, digit_from_value}
use Rattle.std.proofs.lemmas.List.{length-map, map_push, get_or-map, take_more}
use Rattle.std.proofs.lemmas.List.Splits.{slice_split_none, slice_split_at, join_with_byte-slice_split}
use Rattle.std.proofs.lemmas.List.Elements.{All-nil, All-cons}
use Rattle.std.proofs.lemmas.Grind.{common_steps}
use native.Mathlib.Numerals.{unary_clauses}
use Rattle.x509_der.specs.ObjectIdentifier.{IsLawful}
use Rattle.x509_der.specs.ObjectIdentifier.{dotted}

join_push : (c : ℕ) (x : List ℕ) (xs : List (List ℕ)) (y : List ℕ) → join_with_byte c (x ∷ (xs ++ y ∷ [])) ≡ join_with_byte c (x ∷ xs) ++ (c ∷ y)
join_push c x [] y = refl
join_push c x (z ∷ zs) y = ap (λ (t : List ℕ). x ++ (c ∷ t)) (join_push c z zs y) ∙ sym (append_assoc x (c ∷ join_with_byte c (z ∷ zs)) (c ∷ y))

pub dotted_push : (a : ℕ) (arcs : List ℕ) (b : ℕ) → dotted (a ∷ (arcs ++ b ∷ [])) ≡ dotted (a ∷ arcs) ++ (46 ∷ decimal b)
dotted_push a arcs b = ap (λ (ps : List (List ℕ)). join_with_byte 46 (decimal a ∷ ps)) (map_push decimal arcs b) ∙ join_push 46 (decimal a) (map decimal arcs) (decimal b)

-- std's own words for digits and their number
own : IsNumeralModel (AllDigits 10) (digits_value 10)
own = numerals_by_value _ tells_digits

abbrev HasNoPoint : List ℕ → Type 0
HasNoPoint ds = All (λ b. eqb b 46 ≡ false) ds

not_point : (c : ℕ) → IsInRange 48 57 c → eqb c 46 ≡ false
not_point c h = grind (arith, common_steps, h.0)

no_point_in_digits : (ds : List ℕ) → AllDigits 10 ds → HasNoPoint ds
no_point_in_digits [] h = All-nil _
no_point_in_digits (c ∷ cs) h =
    let range = digit_from_value c h.0 in
    All-cons (λ b. eqb b 46 ≡ false) c cs (not_point c range) (no_point_in_digits cs h.1)

no_point : (n : ℕ) → n < 2 ^ 64 → HasNoPoint (decimal n)
no_point n h = no_point_in_digits (decimal n) (digits_decimal own n h)

-- the place k of a list is the place k + 1 under one more element
later : (a : ℕ) (arcs : List ℕ) (k : ℕ) → get_or (a ∷ arcs) (k + 1) 0 < 2 ^ 64 → get_or arcs k 0 < 2 ^ 64
later a arcs k h = simp unary_clauses at h

split_dotted : (a : ℕ) (arcs : List ℕ) → ((k : ℕ) → k < length (a ∷ arcs) → get_or (a ∷ arcs) k 0 < 2 ^ 64)
    → slice_split (λ b. eqb b 46) (dotted (a ∷ arcs)) ≡ map decimal (a ∷ arcs)
split_dotted a [] h = slice_split_none _ (decimal a) (no_point a (h 0 (omega arith)))
split_dotted a (b ∷ bs) h =
    slice_split_at _ (decimal a) 46 (dotted (b ∷ bs)) (no_point a (h 0 (omega arith))) refl
    ∙ ap (λ (ps : List (List ℕ)). decimal a ∷ ps) (split_dotted b bs (λ k l. later a (b ∷ bs) k (h (k + 1) (omega arith))))

pub not_zero_led : (bs : List ℕ) → 1 < length bs → get_or bs 0 0 ≡ 48 → (n : ℕ) → n < 2 ^ 64 → bs ≡ decimal n → ⊥
not_zero_led bs l z zero h e = absurd (omega (arith, ap length e, ap length (decimal_digit 0 (omega arith))))
not_zero_led bs l z (suc m) h e = absurd (omega (arith, first_decimal (suc m) (omega arith) h, ap (λ (t : List ℕ). get_or t 0 0) e))

pub not_empty : (bs : List ℕ) → length bs ≡ 0 → (n : ℕ) → n < 2 ^ 64 → bs ≡ decimal n → ⊥
not_empty bs l n h e = omega (arith, decimal_nonempty n h, ap length e)

pub not_plus_led : (bs : List ℕ) → get_or bs 0 0 ≡ 43 → (n : ℕ) → n < 2 ^ 64 → bs ≡ decimal n → ⊥
not_plus_led bs p n h e =
    not_in_digits own (decimal n) 43 (digits_decimal own n h) (λ r. omega arith) 0 (decimal_nonempty n h) (ap (λ (t : List ℕ). get_or t 0 0) (sym e) ∙ p)

pub zero_text : (bs : List ℕ) → length bs ≡ 1 → get_or bs 0 0 ≡ 48 → bs ≡ decimal 0
zero_text (b ∷ []) l z = ap (λ (x : ℕ). x ∷ []) z ∙ sym (decimal_digit 0 (omega arith))
zero_text [] l z = absurd (omega arith)
zero_text (b ∷ x ∷ xs) l z = absurd (omega arith)

-- what `parse` gives of a text with no sign and no leading zero
pub parsed : {E : Type 0} (bs : List ℕ) (r : Result ℕ E) → ParsesUnsigned 64 10 bs r → get_or bs 0 0 ≢ 43 → get_or bs 0 0 ≢ 48
    → MatchOption (result_ok r) ((n : ℕ) → n < 2 ^ 64 → bs ≡ decimal n → ⊥) (λ n. (n < 2 ^ 64) × (bs ≡ decimal n))
parsed {E = E} bs (Ok x) p plus nought =
    let (all, is) = parse_plain own {E = E} 64 bs (Ok x) p plus in
    (rw is all.2, sym (rw is (decimal-digits_value own bs all.0 all.1 (λ z. absurd (nought z)) all.2)))
parsed {E = E} bs (Err e) p plus nought =
    λ n h same. parse_plain own {E = E} 64 bs (Err e) p plus
    (rw same (digits_decimal own n h), rw same (decimal_nonempty n h), rw same (rw (digits_value-decimal own n h) h))

-- the pieces of a text, cut at its points
abbrev pub pieces : List ℕ → List (List ℕ)
pieces text = slice_split (λ b. eqb b 46) text

pub pieces-dotted : (arcs : List ℕ) → IsLawful arcs → pieces (dotted arcs) ≡ map decimal arcs
pieces-dotted [] h = absurd (omega (arith, h.len))
pieces-dotted (a ∷ arcs) h = split_dotted a arcs h.each

-- a piece that is no arc's text refuses the whole text
pub refused_piece : (text : List ℕ) (k : ℕ) (piece : List ℕ) → (k < length (pieces text)) × (piece ≡ get_or (pieces text) k piece)
    → ((n : ℕ) → n < 2 ^ 64 → piece ≡ decimal n → ⊥) → (arcs : List ℕ) → IsLawful arcs → text ≡ dotted arcs → ⊥
refused_piece text k piece at none arcs law same =
    let cut : pieces text ≡ map decimal arcs = ap pieces same ∙ pieces-dotted arcs law in
    let within : k < length arcs = omega (arith, at.0, ap length cut, length-map arcs decimal) in
    none (get_or arcs k 0) (law.each k within) (at.1 ∙ ap (λ (ps : List (List ℕ)). get_or ps k piece) cut ∙ get_or-map decimal arcs k 0 piece within)

decimals_same : (xs ys : List ℕ) → ((k : ℕ) → k < length xs → get_or xs k 0 < 2 ^ 64) → ((k : ℕ) → k < length ys → get_or ys k 0 < 2 ^ 64) → map decimal xs ≡ map decimal ys → xs ≡ ys
decimals_same [] [] f g e = refl
decimals_same [] (y ∷ ys) f g e = cc
decimals_same (x ∷ xs) [] f g e = cc
decimals_same (x ∷ xs) (y ∷ ys) f g e =
    let heads : decimal x ≡ decimal y = cc in
    let tails : map decimal xs ≡ map decimal ys = cc in
    let first = decimal_injective x y (f 0 (omega arith)) (g 0 (omega arith)) heads in
    let rest = decimals_same xs ys (λ k l. later x xs k (f (k + 1) (omega arith))) (λ k l. later y ys k (g (k + 1) (omega arith))) tails in
    cc

-- arcs that are not lawful refuse the text that they spell
pub refused_arcs : (text xs : List ℕ) → map decimal xs ≡ pieces text → ((k : ℕ) → get_or xs k 0 < 2 ^ 64) → ¬ (IsLawful xs)
    → (arcs : List ℕ) → IsLawful arcs → text ≡ dotted arcs → ⊥
refused_arcs text xs spelled f unlawful arcs law same =
    let e = decimals_same xs arcs (λ k l. f k) law.each (spelled ∙ ap pieces same ∙ pieces-dotted arcs law) in
    unlawful (subst IsLawful (sym e) law)

pub text_from_pieces : (text xs : List ℕ) → map decimal xs ≡ pieces text → text ≡ dotted xs
text_from_pieces text xs spelled = sym (join_with_byte-slice_split 46 text) ∙ ap (join_with_byte 46) (sym spelled)

-- each number, and the default past the end, fits 64 bits
abbrev pub AllFit : List ℕ → Type 0
AllFit xs = (k : ℕ) → get_or xs k 0 < 2 ^ 64

pub all_fit-nil : AllFit []
all_fit-nil k = lit< tt

pub all_fit-push : (xs : List ℕ) (y : ℕ) → AllFit xs → y < 2 ^ 64 → AllFit (xs ++ y ∷ [])
all_fit-push [] y f h zero = h
all_fit-push [] y f h (suc k) = lit< tt
all_fit-push (x ∷ xs) y f h zero = f 0
all_fit-push (x ∷ xs) y f h (suc k) = all_fit-push xs y (λ j. later x xs j (f (j + 1))) h k

-- the arcs so far spell the pieces so far, and so with the next of each
pub spelled_more : (xs : List ℕ) (y k : ℕ) (ps : List (List ℕ)) (p : List ℕ) → map decimal xs ≡ take k ps → (k < length ps) × (p ≡ get_or ps k p) → p ≡ decimal y
    → map decimal (xs ++ y ∷ []) ≡ take (k + 1) ps
spelled_more xs y k ps p e at is =
    map_push decimal xs y ∙ (λ i. e i ++ (sym is ∙ at.1) i ∷ []) ∙ sym (take_more ps k p at.0)

-- lawful arcs with one text are one list
pub dotted_injective : (xs ys : List ℕ) → IsLawful xs → IsLawful ys → dotted xs ≡ dotted ys → xs ≡ ys
dotted_injective xs ys f g e = decimals_same xs ys f.each g.each (sym (pieces-dotted xs f) ∙ ap pieces e ∙ pieces-dotted ys g)

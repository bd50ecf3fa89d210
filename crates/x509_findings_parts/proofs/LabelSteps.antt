-- Whether the parts between dots are labels, step by step.
use Rattle.std.proofs.Common.{◌≡◌, ℕ, ◌+◌, ◌<◌, Bool, true, false, List, [], ◌∷◌, length, take, drop, refl, sym, ap, ◌∙◌, arith}
use Rattle.std.specs.Prelude.{◌&&◌}
use Rattle.std.specs.List.{list_all, position_or_len, slice_split}
use Rattle.std.proofs.lemmas.List.Elements.{All-from_get_or}
use Rattle.std.proofs.lemmas.List.Splits.{slice_split_none, slice_split_first}
use Rattle.std.proofs.lemmas.List.Sums.{fails_before_first}
use Rattle.x509_findings_parts.specs.Hosts.{is_dot, is_label}

first_label : (xs : List ℕ) (at : ℕ) → position_or_len is_dot xs ≡ at → at < length xs → list_all is_label (slice_split is_dot xs) ≡ (is_label (take at xs) && list_all is_label (slice_split is_dot (drop (at + 1) xs)))
first_label xs at e l =
    ap (list_all is_label) (slice_split_first is_dot xs 0 (omega (arith, e, l)) ∙ ap (λ n. take n xs ∷ slice_split is_dot (drop (n + 1) xs)) e)

and_of : (b : Bool) (x y : Bool) → x ≡ b → (x && y) ≡ (b && y)
and_of b x y h = ap (λ (z : Bool). z && y) h

-- a first label that is none
pub no_label : (xs : List ℕ) (at : ℕ) → position_or_len is_dot xs ≡ at → at < length xs → is_label (take at xs) ≡ false → list_all is_label (slice_split is_dot xs) ≡ false
no_label xs at e l h = first_label xs at e l ∙ and_of false (is_label (take at xs)) (list_all is_label (slice_split is_dot (drop (at + 1) xs))) h

-- a first label that is one
pub next_label : (xs : List ℕ) (at : ℕ) → position_or_len is_dot xs ≡ at → at < length xs → is_label (take at xs) ≡ true → list_all is_label (slice_split is_dot xs) ≡ list_all is_label (slice_split is_dot (drop (at + 1) xs))
next_label xs at e l h = first_label xs at e l ∙ and_of true (is_label (take at xs)) (list_all is_label (slice_split is_dot (drop (at + 1) xs))) h

and_true : (b : Bool) → (b && true) ≡ b
and_true true = refl
and_true false = refl

-- the last label
pub last_label : (xs : List ℕ) → position_or_len is_dot xs ≡ length xs → list_all is_label (slice_split is_dot xs) ≡ is_label xs
last_label xs e =
    ap (list_all is_label) (slice_split_none is_dot xs (All-from_get_or (λ b. is_dot b ≡ false) xs 0 (λ i l. fails_before_first is_dot xs i 0 (omega (arith, e, l)))))
    ∙ and_true (is_label xs)

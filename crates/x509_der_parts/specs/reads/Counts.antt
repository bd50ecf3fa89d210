-- Counts, one deviation at a time and all at once.
use Rattle.std.proofs.Common.{◌≡◌, ℕ, zero, suc, ◌+◌, ◌≤◌, ◌<◌, ◌≢◌, ◌==◌, Bool, true, false, cond, List, [], ◌∷◌, ◌++◌, length, map, sum, set, get_or, ◌⊎◌, inl, inr, refl, sym, ap, ◌∙◌, arith, length-set, add-zero}
use Rattle.std.specs.Prelude.{replicate}
use Rattle.std.proofs.lemmas.List.{set_past, get_or-set_same, get_or-set_other}
use Rattle.std.proofs.lemmas.List.Sums.{sum_by-cons}
use Rattle.std.proofs.lemmas.Bool.{eqb-true, eqb-false}
use Rattle.std.proofs.lemmas.Grind.{common_steps}
use Rattle.x509_der_parts.specs.declared.deviation.Deviation.{Deviation}
use Rattle.x509_der_parts.specs.declared.deviation.Deviation.TheVariants.{RsaParametersAbsent, RawParametersAbsent, HashNullAbsent, SaltTooLarge, VersionZeroSpelled, EmptyExtensionsSpelled, CriticalFalseSpelled, AuthorityKeyFieldOrder, GeneralNameForm, SkippedKeyElement}
use Rattle.x509_der_parts.specs.Deviations.{kind_index}
use Rattle.x509_der_parts.specs.Tally.{Tally, Mark, joined, inside, moved, over, marked, count_of, counts_of}
use Rattle.x509_der_parts.specs.Reading.{one_more, tallied}

tallied_append : (k : List ℕ) (a b : List Mark) → tallied k (a ++ b) ≡ tallied (tallied k a) b
tallied_append k [] b = refl
tallied_append k (m ∷ a) b = tallied_append (one_more k (kind_index m.kind)) a b

tallied_moved : (n : ℕ) (k : List ℕ) (a : List Mark) → tallied k (map (moved n) a) ≡ tallied k a
unfolding moved
tallied_moved n k [] = refl
tallied_moved n k (m ∷ a) = tallied_moved n (one_more k (kind_index m.kind)) a

pub tallied_joined : (n : ℕ) (k : List ℕ) (a b : Tally) → tallied k ((joined n a b).marks) ≡ tallied (tallied k a.marks) b.marks
unfolding joined
tallied_joined n k a b = tallied_append k a.marks (map (moved n) b.marks) ∙ tallied_moved n (tallied k a.marks) b.marks

pub tallied_inside : (n : ℕ) (k : List ℕ) (a : Tally) → tallied k ((inside n a).marks) ≡ tallied k a.marks
unfolding inside
tallied_inside n k a = tallied_moved n k a.marks

pub tallied_length : (k : List ℕ) (a : List Mark) → length (tallied k a) ≡ length k
tallied_length k [] = refl
tallied_length k (m ∷ a) = tallied_length (one_more k (kind_index m.kind)) a ∙ length-set k (kind_index m.kind) (get_or k (kind_index m.kind) 0 + 1)

sum_set_in : (k : List ℕ) (i : ℕ) → i < length k → sum (set k i (get_or k i 0 + 1)) ≤ sum k + 1
sum_set_in k i h = grind (arith, common_steps)

sum_set_past : (k : List ℕ) (i : ℕ) → length k ≤ i → sum (set k i (get_or k i 0 + 1)) ≤ sum k + 1
sum_set_past k i h = rw (set_past k i (get_or k i 0 + 1) h) (omega arith)

sum_set : (k : List ℕ) (i : ℕ) → sum (set k i (get_or k i 0 + 1)) ≤ sum k + 1
sum_set k i = grind (arith, sum_set_in k i, sum_set_past k i)

pub tallied_sum : (k : List ℕ) (a : List Mark) → sum (tallied k a) ≤ sum k + length a
tallied_sum k [] = omega arith
tallied_sum k (m ∷ a) = omega (arith, tallied_sum (one_more k (kind_index m.kind)) a, sum_set k (kind_index m.kind))

pub one_more_sum : (k : List ℕ) (i : Deviation) → sum (one_more k (kind_index i)) ≤ sum k + 1
one_more_sum k i = sum_set k (kind_index i)

-- a deviation over the whole is booked behind those in it, and counted before them
bump : List ℕ → ℕ → List ℕ
bump k i = set k i (get_or k i 0 + 1)

bump_swap : (k : List ℕ) (i j : ℕ) → bump (bump k i) j ≡ bump (bump k j) i
unfolding bump
bump_swap [] i j = refl
bump_swap (x ∷ k) zero zero = refl
bump_swap (x ∷ k) zero (suc j) = refl
bump_swap (x ∷ k) (suc i) zero = refl
bump_swap (x ∷ k) (suc i) (suc j) = ap (λ r. x ∷ r) (bump_swap k i j)

tallied_bump : (k : List ℕ) (i : ℕ) (a : List Mark) → tallied (bump k i) a ≡ bump (tallied k a) i
unfolding bump
tallied_bump k i [] = refl
tallied_bump k i (m ∷ a) = ap (λ r. tallied r a) (bump_swap k i (kind_index m.kind)) ∙ tallied_bump (bump k (kind_index m.kind)) i a

-- the counts with kinds more
abbrev pub counted : List ℕ → List Deviation → List ℕ
counted k [] = k
counted k (i ∷ ks) = counted (one_more k (kind_index i)) ks

-- it doesn't matter when a kind is counted
pub counted_more : (k : List ℕ) (i : Deviation) (ks : List Deviation) → one_more (counted k ks) (kind_index i) ≡ counted (one_more k (kind_index i)) ks
unfolding bump
counted_more k i [] = refl
counted_more k i (j ∷ ks) = counted_more (one_more k (kind_index j)) i ks ∙ ap (λ r. counted r ks) (bump_swap k (kind_index j) (kind_index i))

tallied_over : (n : ℕ) (ks : List Deviation) (k : List ℕ) (a : List Mark) → tallied k (over n ks ++ a) ≡ counted (tallied k a) ks
unfolding bump
tallied_over n [] k a = refl
tallied_over n (i ∷ ks) k a = tallied_over n ks (bump k (kind_index i)) a ∙ ap (λ r. counted r ks) (tallied_bump k (kind_index i) a)

pub tallied_marked : (ks : List Deviation) (n : ℕ) (k : List ℕ) (y : Tally) → tallied k ((marked ks n y).marks) ≡ counted (tallied k y.marks) ks
unfolding marked
tallied_marked ks n k y = tallied_over n ks k y.marks

-- counting from nothing gives the ten counts
tells : (b : Bool) → (b ≡ true) ⊎ (b ≡ false)
tells true = inl refl
tells false = inr refl

other_place : (i j : ℕ) → (j == i) ≡ false → i ≢ j
other_place i j e = λ h. eqb-false j i e (sym h)

same_place : (k : List ℕ) (i j : ℕ) → i < length k → get_or (set k j (get_or k j 0 + 1)) i 0 ≡ get_or k i 0 + cond (j == i) 1 0
same_place k i j h =
    elim (tells (j == i)) [
      | inl e ↦ let q : j ≡ i = eqb-true j i e in rw (e, q, get_or-set_same k i (get_or k i 0 + 1) 0 h) refl
      | inr e ↦ rw (e, get_or-set_other k j i (get_or k j 0 + 1) 0 (other_place i j e)) (sym (add-zero (get_or k i 0)))
    ]

count_next : (i : ℕ) (m : Mark) (a : List Mark) → count_of i (m ∷ a) ≡ cond (kind_index m.kind == i) 1 0 + count_of i a
count_next i m a = sum_by-cons (λ (x : Mark). cond (kind_index x.kind == i) 1 0) m a

pub tallied_at : (k : List ℕ) (i : ℕ) (a : List Mark) → i < length k → get_or (tallied k a) i 0 ≡ get_or k i 0 + count_of i a
tallied_at k i [] h = omega arith
tallied_at k i (m ∷ a) h =
    let n = length-set k (kind_index m.kind) (get_or k (kind_index m.kind) 0 + 1) in
    omega (arith, tallied_at (one_more k (kind_index m.kind)) i a (omega (arith, n, h)), count_next i m a, same_place k i (kind_index m.kind) h)

ten : (k : List ℕ) → length k ≡ 10 → k ≡ get_or k 0 0 ∷ get_or k 1 0 ∷ get_or k 2 0 ∷ get_or k 3 0 ∷ get_or k 4 0 ∷ get_or k 5 0 ∷ get_or k 6 0 ∷ get_or k 7 0 ∷ get_or k 8 0 ∷ get_or k 9 0 ∷ []
ten (a ∷ b ∷ c ∷ d ∷ e ∷ f ∷ g ∷ h ∷ i ∷ j ∷ []) n = refl
ten _ n = absurd (omega (arith, n))

zeros_at : (n i : ℕ) → ◌≡◌ {A = ℕ} (get_or (replicate n 0) i 0) 0
zeros_at zero i = refl
zeros_at (suc n) zero = refl
zeros_at (suc n) (suc i) = zeros_at n i

from_zero : (i : ℕ) (a : List Mark) → i < 10 → get_or (tallied (replicate 10 0) a) i 0 ≡ count_of i a
from_zero i a h = omega (arith, tallied_at (replicate 10 0) i a h, zeros_at 10 i)

pub counts_are : (a : List Mark) → tallied (replicate 10 0) a ≡ counts_of a
counts_are a =
    let at = λ (i : ℕ) (h : i < 10). from_zero i a h in
    ten (tallied (replicate 10 0) a) (tallied_length (replicate 10 0) a)
    ∙ rw (at 0 (omega arith), at 1 (omega arith), at 2 (omega arith), at 3 (omega arith), at 4 (omega arith), at 5 (omega arith), at 6 (omega arith), at 7 (omega arith), at 8 (omega arith), at 9 (omega arith)) refl

count_one : (k : Deviation) → cond (kind_index k == 0) 1 0 + cond (kind_index k == 1) 1 0 + cond (kind_index k == 2) 1 0 + cond (kind_index k == 3) 1 0 + cond (kind_index k == 4) 1 0 + cond (kind_index k == 5) 1 0 + cond (kind_index k == 6) 1 0 + cond (kind_index k == 7) 1 0 + cond (kind_index k == 8) 1 0 + cond (kind_index k == 9) 1 0 ≡ 1
count_one RsaParametersAbsent = refl
count_one RawParametersAbsent = refl
count_one HashNullAbsent = refl
count_one SaltTooLarge = refl
count_one VersionZeroSpelled = refl
count_one EmptyExtensionsSpelled = refl
count_one CriticalFalseSpelled = refl
count_one AuthorityKeyFieldOrder = refl
count_one GeneralNameForm = refl
count_one SkippedKeyElement = refl

sum_ten : (a b c d e f g h i j : ℕ) → sum (a ∷ b ∷ c ∷ d ∷ e ∷ f ∷ g ∷ h ∷ i ∷ j ∷ []) ≡ a + b + c + d + e + f + g + h + i + j
sum_ten a b c d e f g h i j = omega arith

pub counts_sum : (a : List Mark) → sum (counts_of a) ≡ length a
counts_sum [] = refl
counts_sum (m ∷ a) =
    let n = λ (i : ℕ) (a : List Mark). count_of i a in
    let s = λ (a : List Mark). sum_ten (n 0 a) (n 1 a) (n 2 a) (n 3 a) (n 4 a) (n 5 a) (n 6 a) (n 7 a) (n 8 a) (n 9 a) in
    omega (arith, counts_sum a, s a, s (m ∷ a), count_one m.kind, count_next 0 m a, count_next 1 m a, count_next 2 m a, count_next 3 m a, count_next 4 m a, count_next 5 m a, count_next 6 m a, count_next 7 m a, count_next 8 m a, count_next 9 m a)

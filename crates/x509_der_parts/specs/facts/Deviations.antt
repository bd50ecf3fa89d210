-- Facts about counts.
use Rattle.std.proofs.Common.{◌≡◌, ℕ, suc, ◌+◌, ◌≤◌, List, [], ◌∷◌, length, sum, arith}
use Rattle.std.proofs.lemmas.List.Sums.{sum_by-cons}
use Rattle.x509_der_parts.specs.Deviations.{IsCounts, Together}

sum-cons : (x : ℕ) (a : List ℕ) → sum (x ∷ a) ≡ x + sum a
sum-cons x a = sum_by-cons (λ (n : ℕ). n) x a

sum_below : (a b whole : List ℕ) → length a ≡ length whole → Together a b whole → sum a ≤ sum whole
sum_below [] b whole n t = omega arith
sum_below (x ∷ a) b [] n t = absurd (omega (arith, n))
sum_below (x ∷ a) [] (w ∷ whole) n t = let e : x + 0 ≡ w = t 0 in omega (arith, e, sum-cons x a, sum-cons w whole, sum_below a [] whole (omega (arith, n)) (λ k. t (suc k)))
sum_below (x ∷ a) (y ∷ b) (w ∷ whole) n t = let e : x + y ≡ w = t 0 in omega (arith, e, sum-cons x a, sum-cons w whole, sum_below a b whole (omega (arith, n)) (λ k. t (suc k)))

-- a part of counts are counts
pub part_counts : (a b whole : List ℕ) → length a ≡ 10 → IsCounts whole → Together a b whole → IsCounts a
part_counts a b whole n h t = record { ten = n; fits = omega (arith, h.fits, sum_below a b whole (omega (arith, n, h.ten)) t) }

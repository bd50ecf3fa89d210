-- One more place.
use Rattle.std.proofs.Common.{◌≡◌, ℕ, zero, suc, ◌+◌, ◌<◌, ◌≤◌, List, length, slice_index_or, Any, subst, sym, ◌∙◌, arith}
use Rattle.std.proofs.lemmas.List.{get_or_default}

up_to : (P : ℕ → Type 0) (n : ℕ) → ((i : ℕ) → i < n → P i) → P n → (i : ℕ) → i < suc n → P i
up_to P zero all p zero b = p
up_to P zero all p (suc i) b = absurd (omega (arith, b))
up_to P (suc n) all p zero b = all zero (omega arith)
up_to P (suc n) all p (suc i) b = up_to (λ k. P (suc k)) n (λ k c. all (suc k) (omega (arith, c))) p i (omega (arith, b))

-- what holds at each place below one, and there, holds at each place below the next
pub one_more : (P : ℕ → Type 0) (n : ℕ) → ((i : ℕ) → i < n → P i) → P n → (i : ℕ) → i < n + 1 → P i
one_more P n all p i b = up_to P n all p i (omega (arith, b))

-- whichever stands in for what isn't there
pub whichever : {X : Type 0} (P : X → Type 0) (xs : List X) (i : ℕ) (x : X) → i < length xs → x ≡ slice_index_or xs i x → (P x → ⊥) → (d : X) → P (slice_index_or xs i d) → ⊥
whichever P xs i x b e fails d p = fails (subst P (get_or_default xs i d x b ∙ sym e) p)

-- one of a list is one of those up to its end
pub none_of : {X : Type 0} (P : X → Type 0) (xs : List X) (n : ℕ) → length xs ≤ n → ((i : ℕ) → i < n → (d : X) → P (slice_index_or xs i d) → ⊥) → Any P xs → ⊥
none_of P xs n ends none one = none one.0 (omega (arith, ends, one.2)) one.1 (subst P (sym one.3) one.4)

-- One more rule beside some.
use Rattle.std.proofs.Common.{ℕ, zero, suc, ◌+◌, ◌<◌, ◌≤◌, List, [], ◌∷◌, length, take, subst, All, slice_index_or, arith}
use Rattle.std.proofs.lemmas.List.Elements.{All-append}
use Rattle.std.proofs.Math.Numerals.{add-one}
use Rattle.std.proofs.Math.Seq.{take-suc}
use Rattle.std.proofs.lemmas.List.{get_or_default, take_all}
use Rattle.x509_rules.specs.declared.rule.Rule.{Rule}

alone : (P : Rule → Type 0) (x : Rule) → P x → All P (x ∷ [])
alone P x p zero d b = p
alone P x p (suc k) d b = absurd (omega (arith, b))

pub all_take : (P : Rule → Type 0) (xs : List Rule) (i : ℕ) (d : Rule) → i < length xs → All P (take i xs) → P (slice_index_or xs i d) → All P (take (i + 1) xs)
all_take P xs i d b all p = rw (add-one i, take-suc xs i d b) (All-append P (take i xs) (_ ∷ []) all (alone P _ p))

pub all_taken : (P : Rule → Type 0) (xs : List Rule) (i : ℕ) → length xs ≤ i → All P (take i xs) → All P xs
all_taken P xs i ends all = subst (λ ys. All P ys) (take_all i xs ends) all

-- whatever stands in for what isn't there
pub whichever : (P : Rule → Type 0) (xs : List Rule) (i : ℕ) (d : Rule) → i < length xs → P (slice_index_or xs i d) → (other : Rule) → P (slice_index_or xs i other)
whichever P xs i d b p other = subst P (get_or_default xs i d other b) p

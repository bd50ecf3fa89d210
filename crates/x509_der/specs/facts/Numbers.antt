-- Numbers that are written one behind another, the last one first.
use Rattle.std.proofs.Common.{◌≡◌, ℕ, zero, suc, ◌+◌, ◌≤◌, ◌<◌, List, [], ◌∷◌, ◌++◌, length, take, drop, get_or, ap, arith, length-append}
use Rattle.std.proofs.lemmas.List.Folds.{length-flat_map-take}
use Rattle.std.specs.List.{flat_map}
use Rattle.x509_der_parts.specs.facts.Writing.{items_from}

module _ {V : Type 0} (f : V → List ℕ) where
  pub part_fits : (xs : List V) (i n m : ℕ) (d : V) → i < length xs → n ≡ length (flat_map f (take i xs)) → length (flat_map f xs) ≤ m → n + length (f (get_or xs i d)) ≤ m
  part_fits xs i n m d h e k = omega (arith, length-flat_map-take f xs i d h)

  behind_fits : (xs : List V) (i : ℕ) → length (flat_map f (drop i xs)) ≤ length (flat_map f xs)
  behind_fits xs zero = omega arith
  behind_fits [] (suc i) = omega arith
  behind_fits (x ∷ xs) (suc i) = omega (arith, behind_fits xs i, length-append (f x) (flat_map f xs))

  pub item_fits : (xs : List V) (i j n m : ℕ) (x d : V) → i + 1 ≡ j → i < length xs → x ≡ get_or xs i d → n + length (flat_map f (drop j xs)) ≡ m → length (flat_map f xs) ≤ m → length (f x) ≤ n
  item_fits xs i j n m x d e h g p r = omega (arith, p, r, behind_fits xs i, ap length (items_from f xs i j x d e h g), length-append (f x) (flat_map f (drop j xs)))

  pub items_start : (xs : List V) (i j n m k : ℕ) (x d : V) → i + 1 ≡ j → i < length xs → x ≡ get_or xs i d → n + length (flat_map f (drop j xs)) ≡ m → k + length (f x) ≡ n → k + length (flat_map f (drop i xs)) ≡ m
  items_start xs i j n m k x d e h g p s = omega (arith, p, s, ap length (items_from f xs i j x d e h g), length-append (f x) (flat_map f (drop j xs)))

-- How contents are compared.
use Rattle.std.proofs.Common.{rules, ◌≡◌, ℕ, List, true, sym, ◌∙◌, nat_eq}
use Rattle.std.specs.Cmp.Lexicographic.{bytes_decides, lists_ties, slice_cmp}
use Rattle.std.specs.Ordering.{eq_by_cmp, is_eq, nat_cmp}

ties : (x y : ℕ) → nat_eq x y ≡ eq_by_cmp nat_cmp x y
ties x y = Prim.search rules

-- contents that compare as equal are
pub same : (xs ys : List ℕ) → is_eq (slice_cmp nat_cmp xs ys) ≡ true → xs ≡ ys
same xs ys e = (bytes_decides xs ys).0 (lists_ties nat_cmp ties xs ys ∙ e)

-- and equal ones do
pub alike : (xs ys : List ℕ) → xs ≡ ys → is_eq (slice_cmp nat_cmp xs ys) ≡ true
alike xs ys e = sym (lists_ties nat_cmp ties xs ys) ∙ (bytes_decides xs ys).1 e

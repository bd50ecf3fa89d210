-- The front of a slice, filled as far as there is room.
use Rattle.std.proofs.Common.{◌≡◌, ℕ, zero, suc, ◌<◌, ◌≤◌, List, [], ◌∷◌, ◌++◌, length, set, refl, ap, arith}
use Rattle.x509_values.specs.Told.{filled}

pub length_filled : {X : Type 0} (ps old : List X) → length (filled ps old) ≡ length old
length_filled [] old = refl
length_filled (x ∷ ps) [] = refl
length_filled (x ∷ ps) (y ∷ old) = omega (arith, length_filled ps old)

pub fill_more : {X : Type 0} (ps old : List X) (p : X) (n : ℕ) → length ps ≡ n → n < length old → set (filled ps old) n p ≡ filled (ps ++ p ∷ []) old
fill_more ps [] p n e l = absurd (omega (arith, l))
fill_more [] (y ∷ old) p zero e l = refl
fill_more [] (y ∷ old) p (suc n) e l = absurd (omega (arith, e))
fill_more (x ∷ ps) (y ∷ old) p zero e l = absurd (omega (arith, e))
fill_more (x ∷ ps) (y ∷ old) p (suc n) e l = ap (λ r. x ∷ r) (fill_more ps old p n (omega (arith, e)) (omega (arith, l)))

pub fill_full : {X : Type 0} (ps old : List X) (p : X) → length old ≤ length ps → filled ps old ≡ filled (ps ++ p ∷ []) old
fill_full [] [] p l = refl
fill_full [] (y ∷ old) p l = absurd (omega (arith, l))
fill_full (x ∷ ps) [] p l = refl
fill_full (x ∷ ps) (y ∷ old) p l = ap (λ r. x ∷ r) (fill_full ps old p (omega (arith, l)))

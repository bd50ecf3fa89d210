-- Lists of arcs of 64 bits, arc by arc.
use Rattle.std.proofs.Common.{ℕ, zero, suc, ◌<◌, ◌^◌, List, [], ◌∷◌, arith}
use Rattle.std.specs.Prelude.{EachIndex, slice_index}

pub no_arcs : EachIndex {X = ℕ} [] (λ k. slice_index [] k < 2 ^ 64)
no_arcs k l = omega (arith, l)

pub and_arc : (a : ℕ) (r : List ℕ) → a < 2 ^ 64 → EachIndex r (λ k. slice_index r k < 2 ^ 64) → EachIndex (a ∷ r) (λ k. slice_index (a ∷ r) k < 2 ^ 64)
and_arc a r h t zero l = h
and_arc a r h t (suc k) l = t k (omega (arith, l))

-- Whether one of some items passes a test, step by step.
use Rattle.std.proofs.Common.{◌≡◌, ℕ, ◌+◌, ◌<◌, ◌≤◌, length, Bool, true, false, List, ◌∷◌, drop, ap, sym, ◌∙◌, slice_index_or}
use Rattle.std.specs.List.{list_any}
use Rattle.std.specs.Prelude.{◌||◌}
use Rattle.std.proofs.lemmas.List.{at_drop_more}
use Rattle.std.proofs.Math.ListN.{drop_of_length-le}

abbrev step : {V : Type 0} → (V → Bool) → List V → Bool → Bool
step f vs t = t || list_any f vs

-- an item that passes is one of the rest
pub had_here : {V : Type 0} (f : V → Bool) (vs : List V) (i : ℕ) (v : V) → i < length vs → v ≡ slice_index_or vs i v → f v ≡ true → list_any f (drop i vs) ≡ true
had_here f vs i v lt is h =
    at_drop_more (list_any f) vs i v lt
    ∙ ap (λ x. list_any f (x ∷ drop (i + 1) vs)) (sym is)
    ∙ ap (step f (drop (i + 1) vs)) h

-- another is passed over
pub had_later : {V : Type 0} (f : V → Bool) (vs : List V) (i : ℕ) (v : V) → i < length vs → v ≡ slice_index_or vs i v → f v ≡ false → list_any f (drop i vs) ≡ list_any f (drop (i + 1) vs)
had_later f vs i v lt is h =
    at_drop_more (list_any f) vs i v lt
    ∙ ap (λ x. list_any f (x ∷ drop (i + 1) vs)) (sym is)
    ∙ ap (step f (drop (i + 1) vs)) h

-- behind all of them there is none
pub had_nowhere : {V : Type 0} (f : V → Bool) (vs : List V) (i : ℕ) → length vs ≤ i → list_any f (drop i vs) ≡ false
had_nowhere f vs i h = ap (list_any f) (drop_of_length-le vs h)

-- Alternatives of a choice, told apart by their tags.
use Rattle.std.proofs.Common.{ℕ, Bool, false, ◌||◌, eqb, List, [], ◌∷◌}

-- the byte is one of these
abbrev pub among : List ℕ → ℕ → Bool
among [] c = false
among (t ∷ ts) c = eqb c t || among ts c

-- Numbers joined by spaces grow by one at the end.
use Rattle.std.proofs.Common.{◌≡◌, ℕ, List, [], ◌∷◌, ◌++◌, map, refl, sym, ap, ◌∙◌, append_assoc}
use Rattle.std.specs.List.{join_with_byte}
use Rattle.std.specs.Fmt.{decimal}
use Rattle.std.proofs.lemmas.List.{map_push}
use Rattle.x509_tool_parts.specs.Output.{spaced}

join_push : (c : ℕ) (x : List ℕ) (xs : List (List ℕ)) (y : List ℕ) → join_with_byte c (x ∷ (xs ++ y ∷ [])) ≡ join_with_byte c (x ∷ xs) ++ (c ∷ y)
join_push c x [] y = refl
join_push c x (z ∷ zs) y = ap (λ (t : List ℕ). x ++ (c ∷ t)) (join_push c z zs y) ∙ sym (append_assoc x (c ∷ join_with_byte c (z ∷ zs)) (c ∷ y))

pub spaced_push : (a : ℕ) (ns : List ℕ) (b : ℕ) → spaced (a ∷ (ns ++ b ∷ [])) ≡ spaced (a ∷ ns) ++ (32 ∷ decimal b)
spaced_push a ns b = ap (λ (ps : List (List ℕ)). join_with_byte 32 (decimal a ∷ ps)) (map_push decimal ns b) ∙ join_push 32 (decimal a) (map decimal ns) (decimal b)

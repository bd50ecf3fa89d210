-- Findings, one behind the other.
use Rattle.std.proofs.Common.{◌≡◌, ℕ, ◌+◌, ◌<◌, List, [], ◌∷◌, ◌++◌, length, take, get_or, set, inl, inr, refl, sym, ap, subst, ◌∙◌}
use Rattle.std.proofs.lemmas.List.{take_more, take_more_set}
use Rattle.x509_rules.specs.declared.rule.Rule.{Rule}
use Rattle.x509_flat_findings.specs.Findings.{AreTold}
use Rattle.x509_flat_findings.specs.declared.findings.FlatFinding.{FlatFinding}

-- one more rule that is broken
pub broken_behind : (P : Rule → Type 0) (f : Rule → FlatFinding) (rules : List Rule) (told : List FlatFinding) (r : Rule) → AreTold P f rules told → P r → AreTold P f (rules ++ r ∷ []) (told ++ f r ∷ [])
broken_behind P f [] told r e broken = inl (broken, [], ap (λ l. l ++ f r ∷ []) e, refl)
broken_behind P f (x ∷ xs) told r (inl h) broken = inl (h.0, h.1 ++ f r ∷ [], ap (λ l. l ++ f r ∷ []) h.2, broken_behind P f xs h.1 r h.3 broken)
broken_behind P f (x ∷ xs) told r (inr h) broken = inr (h.0, broken_behind P f xs told r h.1 broken)

-- and one that isn't
pub kept_behind : (P : Rule → Type 0) (f : Rule → FlatFinding) (rules : List Rule) (told : List FlatFinding) (r : Rule) → AreTold P f rules told → (P r → ⊥) → AreTold P f (rules ++ r ∷ []) told
kept_behind P f [] told r e kept = inr (kept, e)
kept_behind P f (x ∷ xs) told r (inl h) kept = inl (h.0, h.1, h.2, kept_behind P f xs h.1 r h.3 kept)
kept_behind P f (x ∷ xs) told r (inr h) kept = inr (h.0, kept_behind P f xs told r h.1 kept)

-- the next of some rules is told behind the others
pub told_next : (P : Rule → Type 0) (f : Rule → FlatFinding) (rules : List Rule) (row new : List FlatFinding) (index count : ℕ) (d : Rule) (told : FlatFinding)
    → index < length rules → count < length row → AreTold P f (take index rules) (take count row)
    → P (get_or rules index d) → told ≡ f (get_or rules index d) → new ≡ set row count told
    → AreTold P f (take (index + 1) rules) (take (count + 1) new)
told_next P f rules row new index count d told within room so_far broken is written =
    let r = get_or rules index d in
    let Q : List Rule → Type 0 = λ x. AreTold P f x (take (count + 1) new) in
    let R : List FlatFinding → Type 0 = λ x. AreTold P f (take index rules ++ r ∷ []) x in
    let row_is : take (count + 1) new ≡ take count row ++ f r ∷ [] =
    ap (take (count + 1)) written ∙ take_more_set row count told room ∙ ap (λ x. take count row ++ x ∷ []) is in
    subst Q (sym (take_more rules index d within)) (subst R (sym row_is) (broken_behind P f (take index rules) (take count row) r so_far broken))

-- or kept
pub kept_next : (P : Rule → Type 0) (f : Rule → FlatFinding) (rules : List Rule) (told : List FlatFinding) (index : ℕ) (d : Rule)
    → index < length rules → AreTold P f (take index rules) told → (P (get_or rules index d) → ⊥)
    → AreTold P f (take (index + 1) rules) told
kept_next P f rules told index d within so_far kept =
    let Q : List Rule → Type 0 = λ x. AreTold P f x told in
    subst Q (sym (take_more rules index d within)) (kept_behind P f (take index rules) told (get_or rules index d) so_far kept)

-- The first extension with an identifier, step by step.
use Rattle.std.proofs.Common.{◌≡◌, ℕ, ◌+◌, ◌<◌, ◌≤◌, length, Bool, true, false, List, ◌∷◌, Some, None, Option, drop, ap, sym, ◌∙◌, slice_index_or}
use Rattle.std.specs.Prelude.{if◌then◌else◌}
use Rattle.std.proofs.lemmas.List.{at_drop_more}
use Rattle.std.proofs.Math.ListN.{drop_of_length-le}
use Rattle.picky_asn1_x509_parts.specs.Extensions.{ExtensionFields}
use Rattle.picky_asn1_x509_parts.specs.FirstExtensions.{has_identifier, first_of}

abbrev step : {A : Type 0} → List ℕ → List (ExtensionFields A) → ExtensionFields A → Bool → Option (ExtensionFields A)
step arcs es e t = if t then Some e else first_of arcs es

-- an extension with the identifier is the first of the rest
pub found_here : {A : Type 0} (arcs : List ℕ) (es : List (ExtensionFields A)) (i : ℕ) (e : ExtensionFields A) → i < length es → e ≡ slice_index_or es i e → has_identifier arcs e ≡ true → first_of arcs (drop i es) ≡ Some e
found_here arcs es i e lt is h =
    at_drop_more (first_of arcs) es i e lt
    ∙ ap (λ x. first_of arcs (x ∷ drop (i + 1) es)) (sym is)
    ∙ ap (step arcs (drop (i + 1) es) e) h

-- another is passed over
pub found_later : {A : Type 0} (arcs : List ℕ) (es : List (ExtensionFields A)) (i : ℕ) (e : ExtensionFields A) → i < length es → e ≡ slice_index_or es i e → has_identifier arcs e ≡ false → first_of arcs (drop i es) ≡ first_of arcs (drop (i + 1) es)
found_later arcs es i e lt is h =
    at_drop_more (first_of arcs) es i e lt
    ∙ ap (λ x. first_of arcs (x ∷ drop (i + 1) es)) (sym is)
    ∙ ap (step arcs (drop (i + 1) es) e) h

-- behind all of them there is none
pub found_nowhere : {A : Type 0} (arcs : List ℕ) (es : List (ExtensionFields A)) (i : ℕ) → length es ≤ i → first_of arcs (drop i es) ≡ None
found_nowhere arcs es i h = ap (first_of arcs) (drop_of_length-le es h)

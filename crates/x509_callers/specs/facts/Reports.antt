-- The lines of deviations, one after another.
use Rattle.std.proofs.Common.{◌≡◌, ℕ, ◌+◌, ◌<◌, List, [], ◌∷◌, ◌++◌, length, get_or, take, sym, ap, ◌∙◌, append-nil}
use Rattle.std.proofs.lemmas.List.{take_more}
use Rattle.std.proofs.lemmas.List.Concat.{flat_map-append}
use Rattle.picky_asn1_x509.specs.Types.{Place}
use Rattle.x509_callers.specs.Reports.{place_line, place_lines}

-- one line more
pub lines_more : (places : List Place) (i : ℕ) (none : Place) → i < length places → place_lines (take i places) ++ place_line (get_or places i none) ≡ place_lines (take (i + 1) places)
lines_more places i none within =
    sym (ap place_lines (take_more places i none within)
    ∙ flat_map-append place_line (take i places) (get_or places i none ∷ [])
    ∙ ap (λ lines. place_lines (take i places) ++ lines) (append-nil (place_line (get_or places i none))))

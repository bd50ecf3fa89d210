use Rattle.std.proofs.Common.{List, ℕ, ◌∷◌, [], ap, ◌∙◌}
use Rattle.x509_name_text.specs.Texts.{left_text}
use Rattle.x509_name_text.proofs.Escapes.{held}
use Rattle.x509_name_text.proofs.Writing.{both}
use Rattle.x509_name_text.proofs.value.next_symbol.Goals as goal

pub returns-in-Nothing : goal.returns-in-Nothing
returns-in-Nothing c = λ shown tells.
    let taken = c.first_symbol.ensures shown tells in
    record { text = taken.text; written = taken.written; left = λ cs. ap (λ b. left_text shown b (c.args.symbol ∷ cs)) c.in-Nothing.is ∙ taken.left cs }

pub returns-in-Symbol : goal.returns-in-Symbol
returns-in-Symbol c = λ shown tells.
    let taken = c.later_symbol.ensures shown tells in
    record { text = taken.text; written = taken.written; left = λ cs. ap (λ b. left_text shown b (c.args.symbol ∷ cs)) c.in-Symbol.is ∙ taken.left cs }

pub returns-in-Space : goal.returns-in-Space
returns-in-Space c = λ shown tells.
    let taken = c.later_symbol-in-Space.ensures shown tells in
    record {
      text = 32 ∷ taken.text;
      written = both (32 ∷ []) taken.text _ _ _ _ _ _ c.put-at.ensures taken.written;
      left = λ cs. ap (λ b. left_text shown b (c.args.symbol ∷ cs)) c.in-Space.is ∙ held shown tells c.args.symbol cs ∙ ap (λ (t : List ℕ). 32 ∷ t) (taken.left cs);
    }

use Rattle.std.proofs.Common.{List, ℕ, ◌∷◌, [], sym, ap, ◌∙◌, arith}
use Rattle.std.specs.Char.Utf16.{utf16_lossy_chars}
use Rattle.x509_name_text.specs.Texts.{units_of}
use Rattle.x509_name_text.proofs.Surrogates.{lossy_lone, lossy_pair, lossy_unpaired}
use Rattle.x509_name_text.proofs.utf16.first_of.Goals as goal

pub returns-in_default : goal.returns-in_default
returns-in_default c =
    let first = c.in_ok-first.ensures in
    let none = c.in_default.ensures in (
      ap utf16_lossy_chars (first.0 ∙ ap (λ (us : List ℕ). c.in_ok-first.first ∷ us) none)
          ∙ lossy_lone c.in_ok-first.first
          ∙ ap (λ x. x ∷ utf16_lossy_chars []) (sym c.of_unit.ensures)
          ∙ ap (λ us. c.of_unit.result ∷ utf16_lossy_chars us) (sym none),
      first.1,
    )

pub returns-in-Some-of_pair : goal.returns-in-Some-of_pair
returns-in-Some-of_pair c =
    let first = c.in_ok-first.ensures in
    let second = c.in-Some.ensures in
    let pair = c.in-Some-of_pair.ensures in (
      ap utf16_lossy_chars (first.0 ∙ ap (λ (us : List ℕ). c.in_ok-first.first ∷ us) second.0)
          ∙ lossy_pair c.in_ok-first.first c.in-Some.second _ pair.0
          ∙ ap (λ x. x ∷ utf16_lossy_chars (units_of c.in-Some.behind.now)) (sym pair.1),
      omega (arith, first.1, second.1),
    )

pub returns-in-None : goal.returns-in-None
returns-in-None c =
    let first = c.in_ok-first.ensures in
    let second = c.in-Some.ensures in (
      ap utf16_lossy_chars (first.0 ∙ ap (λ (us : List ℕ). c.in_ok-first.first ∷ us) second.0)
          ∙ lossy_unpaired c.in_ok-first.first c.in-Some.second _ c.in-None.ensures
          ∙ ap (λ x. x ∷ utf16_lossy_chars (c.in-Some.second ∷ units_of c.in-Some.behind.now)) (sym c.of_unit-in-None.ensures)
          ∙ ap (λ us. c.of_unit-in-None.result ∷ utf16_lossy_chars us) (sym second.0),
      first.1,
    )

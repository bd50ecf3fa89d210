use Rattle.std.proofs.Common.{◌≡◌, [], ap, ◌∙◌, arith}
use Rattle.std.proofs.lemmas.List.{nil_from_length}
use Rattle.std.specs.Char.Utf16.{utf16_lossy_chars}
use Rattle.x509_name_text.specs.Texts.{units_of}
use Rattle.x509_name_text.proofs.Values.{lossy_nil, no_more, one_more}
use Rattle.x509_name_text.proofs.value.put_utf16.Goals as goal
use Rattle.x509_name_text.proofs.value.put_utf16.Goals.{else-symbols-test, then-symbols-test+in_default}

pub symbols-preserved : goal.symbols-preserved
symbols-preserved c = (
  omega (arith, c.symbols.invariant.0, c.in-Some.ensures.1),
  λ shown tells. one_more shown _ c.in-Some.symbol _ _ _ _ _ _ _ (rw c.in-Some.ensures.0 at c.symbols.invariant.1 shown tells) (c.next_symbol-so_far.ensures shown tells),
)

pub returns : goal.returns
returns c = λ shown tells.
    let none : utf16_lossy_chars (units_of c.symbols.rest.now) ≡ [] =
    elim c.symbols-test.branch [
      | else-symbols-test w ↦ ap (λ t. utf16_lossy_chars (units_of t)) (nil_from_length c.symbols.rest.now (omega (arith, c.symbols.invariant.0, w.symbols-test.false))) ∙ lossy_nil
      | then-symbols-test+in_default w ↦ ap utf16_lossy_chars w.in_default.ensures ∙ lossy_nil
    ]
    in no_more shown _ _ _ _ _ _ _ (rw none at c.symbols.invariant.1 shown tells) (c.end.ensures shown tells)

use Rattle.std.proofs.Common.{◌≡◌, [], refl, ap, ◌∙◌, arith, rules, chars}
use Rattle.std.proofs.lemmas.Str.{IsUtf8-past_char, chars_past_char, chars-nil}
use Rattle.std.proofs.lemmas.List.{nil_from_length}
use Rattle.x509_name_text.proofs.Values.{no_more, one_more}
use Rattle.x509_name_text.proofs.Writing.{nothing}
use Rattle.x509_name_text.proofs.value.put_text.Goals as goal

pub symbols-init : goal.symbols-init
symbols-init c = (
  search rules,
  λ shown tells. record {
    done = [];
    written = rw c.begin-so_far.ensures (nothing _ _ (omega (arith, c.ranges.at.fits)));
    more = rw (c.begin-so_far.ensures, c.into_iter-symbol-iterator.ensures.into_iter_gives, c.chars-symbol-items.ensures.rest) refl;
  },
)

pub symbols-preserved : goal.symbols-preserved
symbols-preserved c =
    let held = c.symbols.invariant in
    let parts = c.in-Some.ensures.steps.0 in
    let step = chars_past_char _ _ c.in-Some.symbol held.0 parts in (
      IsUtf8-past_char _ _ c.in-Some.symbol held.0 parts,
      λ shown tells. one_more shown _ c.in-Some.symbol _ _ _ _ _ _ _ (rw step at held.1 shown tells) (c.next_symbol-so_far.ensures shown tells),
    )

pub returns : goal.returns
returns c = λ shown tells.
    let none : chars _ ≡ [] = ap chars (nil_from_length _ c.in-None.ensures.steps.0.0) ∙ chars-nil in
    no_more shown _ _ _ _ _ _ _ (rw none at c.symbols.invariant.1 shown tells) (c.end.ensures shown tells)

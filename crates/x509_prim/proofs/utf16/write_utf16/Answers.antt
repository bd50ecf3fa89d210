use Rattle.std.proofs.Common.{◌++◌, encode_utf8, encode_utf8_all, sym, ap, ◌∙◌, append_assoc, append-nil, rules, arith, List, ℕ}
use Rattle.std.proofs.Output.{has_written_append, has_written_of_eq}
use Rattle.x509_prim.proofs.FirstUnits.{lossy_end}
use Rattle.x509_prim.proofs.utf16.write_utf16.Goals as goal

pub loop-rest-preserved : goal.loop-rest-preserved
loop-rest-preserved g c =
    λ plain.
    let now = c.loop-rest.invariant plain in
    let char = c.next_char-character.result.0 in (
      now.0 ++ encode_utf8 char,
      has_written_append _ _ _ _ _ _ now.1 (search rules),
      append_assoc now.0 (encode_utf8 char) _ ∙ ap (λ (l : List ℕ). now.0 ++ encode_utf8_all l) (sym c.next_char-character.ensures.text) ∙ now.2,
    )

pub returns : goal.returns
returns g c = λ plain _.
    let now = c.loop-rest.invariant plain in
    has_written_of_eq _ _ _ _ _ (rw (lossy_end c.loop-rest.rest.now (omega arith), append-nil) at now.2) now.1

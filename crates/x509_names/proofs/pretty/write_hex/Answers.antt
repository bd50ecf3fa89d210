use Rattle.std.proofs.Common.{◌≡◌, ℕ, List, ◌++◌, sym, ap, ◌∙◌, rules, append_assoc, append-nil}
use Rattle.std.proofs.Output.{has_written_append, has_written_of_eq}
use Rattle.std.proofs.lemmas.List.{nil_from_length}
use Rattle.std.specs.Slice.Iter.{chunks_rest}
use Rattle.hex.specs.Hex.{encode_lower}
use Rattle.x509_names.proofs.HexTexts.{encode_lower-append, encode_lower-nil, encode_lower-text}
use Rattle.x509_names.proofs.pretty.write_hex.Goals as goal

pub unreachable-requires-in_default-from_utf8 : goal.unreachable-requires-in_default-from_utf8
unreachable-requires-in_default-from_utf8 g c =
    c.in_default-from_utf8.ensures.cases.0 (rw c.in-Ok.ensures.written (encode_lower-text c.in-Some.piece.now))

pub loop-piece-preserved : goal.loop-piece-preserved
loop-piece-preserved g c =
    let piece = c.in-Some.piece.now in
    let steps = c.in-Some.ensures.steps in
    let size = c.loop-piece.invariant.2 in
    let shown : c.in-Ok-from_utf8.text.now ≡ encode_lower piece = c.in-Ok-from_utf8.ensures.cases.0 ∙ c.in-Ok.ensures.written in (
      search rules,
      tt,
      steps.0 ∙ size,
      λ plain.
          let so_far = c.loop-piece.invariant.3 plain in (
            so_far.0 ++ c.in-Ok-from_utf8.text.now,
            has_written_append _ _ _ _ _ _ so_far.1 (search rules),
            append_assoc so_far.0 _ _
                ∙ ap (λ (t : List ℕ). so_far.0 ++ t) (rw shown (sym (encode_lower-append piece (chunks_rest c.next.new.self)) ∙ ap encode_lower (sym steps.1.0)))
                ∙ so_far.2,
          ),
    )

pub returns : goal.returns
returns g c = λ plain _.
    let so_far = c.loop-piece.invariant.3 plain in
    let none = nil_from_length _ c.in-None.ensures.steps.1.0 in
    has_written_of_eq _ _ _ _ _ (rw (none, encode_lower-nil, append-nil) at so_far.2) so_far.1

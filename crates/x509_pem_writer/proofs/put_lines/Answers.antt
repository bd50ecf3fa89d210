use Rattle.std.proofs.Common.{sym, ap, ◌∙◌, ◌++◌, ◌∷◌, []}
use Rattle.x509_pem_writer.specs.facts.Blocks.{is_nothing, line_put, lines_end, not_empty}
use Rattle.x509_pem_writer.proofs.put_lines.Goals as goal

pub lines-preserved : goal.lines-preserved
lines-preserved g c =
    line_put c.lines.text.items c.split_at.result.0.now c.push.new.self.items c.lines.rest.now c.split_at.result.1.now _ c.min.result
    (not_empty c.lines.rest.now (sym c.is_empty.ensures ∙ c.lines-test.true))
    c.min.ensures
    c.split_at.ensures.front
    c.split_at.ensures.back
    (c.in_ok-push.ensures.items ∙ ap (λ x. x ++ 10 ∷ []) c.in_ok-extend_from_slice.ensures.items)
    c.lines.invariant

pub returns : goal.returns
returns g c = lines_end c.lines.text.items c.lines.rest.now _ (is_nothing c.lines.rest.now (sym c.is_empty.ensures ∙ c.lines-test.false)) c.lines.invariant

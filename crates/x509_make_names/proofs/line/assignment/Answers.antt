use Rattle.std.proofs.Common.{◌∙◌}
use Rattle.std.proofs.lemmas.Result.{on_ok_weaker}
use Rattle.x509_make_parts.specs.facts.Appending.{closed, then, is_behind}
use Rattle.x509_make_names.proofs.line.assignment.Goals as goal

pub returns : goal.returns
returns g c =
    let written = then _ _ _ (is_behind _ _ _ c.in_ok-put_identifier.ensures) c.in_ok-line_value.ensures in
    on_ok_weaker c.close.result (closed _ _ _ _ _ (c.open-start.ensures ∙ c.args.maker.now.out.ok.0) written) c.close.ensures

use Rattle.std.proofs.Common.{◌∙◌}
use Rattle.std.proofs.lemmas.Result.{on_ok_weaker}
use Rattle.x509_make_parts.specs.facts.Appending.{closed, is_behind}
use Rattle.x509_make_names.proofs.line.set_line.Goals as goal

pub returns : goal.returns
returns g c =
    let written = is_behind _ _ _ c.in_ok-attributes_of_line.ensures.1.behind in
    on_ok_weaker c.close.result (closed _ _ _ _ _ (c.open-start.ensures ∙ c.args.maker.now.out.ok.0) written) c.close.ensures

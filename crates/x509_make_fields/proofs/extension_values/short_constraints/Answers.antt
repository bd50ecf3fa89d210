use Rattle.std.proofs.Common.{◌∙◌}
use Rattle.std.proofs.lemmas.Result.{on_ok_weaker}
use Rattle.x509_make_parts.specs.facts.Appending.{closed, then}
use Rattle.x509_make_fields.proofs.extension_values.short_constraints.Goals as goal

pub returns : goal.returns
returns g c =
    let written = then _ _ _ c.in_ok-authority_flag.ensures c.in_ok-path_length.ensures in
    on_ok_weaker c.close.result (closed _ _ _ _ _ (c.open-start.ensures ∙ c.args.maker.now.out.ok.0) written) c.close.ensures

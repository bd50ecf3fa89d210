use Rattle.std.proofs.Common.{◌∙◌}
use Rattle.std.proofs.lemmas.Result.{on_ok_weaker}
use Rattle.x509_make_parts.specs.facts.Appending.{closed}
use Rattle.x509_make_names.proofs.general_names.general_names.Goals as goal

pub returns : goal.returns
returns g c =
    let written = c.in_ok-general_items.ensures in
    on_ok_weaker c.close.result (closed _ _ _ _ _ (c.open-start.ensures ∙ c.args.maker.now.out.ok.0) written) c.close.ensures

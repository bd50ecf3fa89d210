use Rattle.std.proofs.Common.{◌∙◌}
use Rattle.std.proofs.lemmas.Result.{on_ok_weaker}
use Rattle.x509_make_parts.specs.facts.Appending.{closed, then, an_element}
use Rattle.x509_make_names.proofs.other_names.other_name.Goals as goal

pub returns : goal.returns
returns g c =
    let written = then _ _ _ (an_element _ _ _ c.in_ok-identified.ensures) (an_element _ _ _ c.in_ok-tagged_text.ensures) in
    on_ok_weaker c.close.result (closed _ _ _ _ _ (c.open-start.ensures ∙ c.args.maker.now.out.ok.0) written) c.close.ensures

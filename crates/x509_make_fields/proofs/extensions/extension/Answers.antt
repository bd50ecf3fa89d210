use Rattle.std.proofs.Common.{◌∙◌}
use Rattle.std.proofs.lemmas.Result.{on_ok_weaker}
use Rattle.x509_make_parts.specs.facts.Appending.{closed, then, is_behind, an_element}
use Rattle.x509_make_fields.proofs.extensions.extension.Goals as goal

pub returns : goal.returns
returns g c =
    let string = closed _ _ _ _ _ (c.open-string.ensures ∙ c.critical.new.maker.out.ok.0) c.in_ok-held.ensures c.in_ok-close.ensures in
    let written = then _ _ _ (then _ _ _ (is_behind _ _ _ c.in_ok-put_identifier.ensures) c.in_ok-critical.ensures) (an_element _ _ _ string) in
    on_ok_weaker c.close-2.result (closed _ _ _ _ _ (c.open-start.ensures ∙ c.args.maker.now.out.ok.0) written) c.close-2.ensures

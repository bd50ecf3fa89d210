use Rattle.std.proofs.Common.{◌∙◌}
use Rattle.std.proofs.lemmas.Result.{on_ok_weaker}
use Rattle.x509_make_parts.specs.facts.Appending.{closed, then, an_element}
use Rattle.x509_make_keys.proofs.Stays.{stays}
use Rattle.x509_make_fields.proofs.keys.public_key.Goals as goal

pub returns : goal.returns
returns g c =
    let written = then _ _ _ (then _ _ _ (an_element _ _ _ c.in_ok-algorithm_member.ensures) (an_element _ _ _ c.in_ok-subject_key.ensures)) (stays c.in_ok-leave_from.ensures) in
    on_ok_weaker c.close.result (λ e. an_element _ _ _ (closed _ _ _ _ _ (c.open-start.ensures ∙ c.args.maker.now.out.ok.0) written e)) c.close.ensures

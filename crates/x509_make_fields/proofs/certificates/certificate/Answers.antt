use Rattle.std.proofs.Common.{◌∙◌}
use Rattle.std.proofs.lemmas.Result.{on_ok_weaker}
use Rattle.x509_make_parts.specs.facts.Appending.{closed, then, an_element}
use Rattle.x509_make_keys.proofs.Stays.{stays}
use Rattle.x509_make_fields.proofs.certificates.certificate.Goals as goal

pub returns : goal.returns
returns g c =
    let written = then _ _ _ (then _ _ _ (then _ _ _ (an_element _ _ _ c.in_ok-tbs_certificate.ensures) (stays c.in_ok-leave_from.ensures)) (an_element _ _ _ c.in_ok-algorithm_member.ensures)) (an_element _ _ _ c.in_ok-bits_member.ensures) in
    on_ok_weaker c.close.result (closed _ _ _ _ _ (c.open-start.ensures ∙ c.args.maker.now.out.ok.0) written) c.close.ensures

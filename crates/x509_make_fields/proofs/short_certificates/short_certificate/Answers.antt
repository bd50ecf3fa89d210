use Rattle.std.proofs.Common.{◌∙◌}
use Rattle.std.proofs.lemmas.Result.{on_ok_weaker}
use Rattle.x509_make_parts.specs.facts.Appending.{closed, then, an_element}
use Rattle.x509_make_fields.proofs.short_certificates.short_certificate.Goals as goal

pub returns : goal.returns
returns g c =
    let written = then _ _ _ (then _ _ _ (then _ _ _ (then _ _ _ (then _ _ _ (then _ _ _ (then _ _ _ c.in_ok-put_version.ensures (an_element _ _ _ c.in_ok-integer_member.ensures)) (an_element _ _ _ c.in_ok-algorithm_member.ensures)) c.in_ok-issuer.ensures) (an_element _ _ _ c.in_ok-validity.ensures)) c.in_ok-subject_member.ensures) c.in_ok-key_member.ensures) c.in_ok-tail.ensures in
    on_ok_weaker c.close.result (closed _ _ _ _ _ (c.open-start.ensures ∙ c.args.maker.now.out.ok.0) written) c.close.ensures

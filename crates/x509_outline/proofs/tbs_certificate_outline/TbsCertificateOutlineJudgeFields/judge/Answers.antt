use Rattle.std.proofs.Common.{refl}
use Rattle.std.proofs.lemmas.Result.{err_from_is_err_and}
use Rattle.x509_outline.specs.TbsCertificates.{tbs_of}
use Rattle.x509_outline.specs.facts.TbsBriefs.{tbs_judged, tbs_not_judged}
use Rattle.x509_outline.proofs.tbs_certificate_outline.TbsCertificateOutlineJudgeFields.judge.Goals as goal

pub returns : goal.returns
returns g c = λ f e.
    let h = c.in_ok-found.ensures.ok in
    (tbs_of f, tbs_judged f c.args.brief _ e h.0 h.1, refl)

pub returns-in_err-found : goal.returns-in_err-found
returns-in_err-found g c =
    let p = err_from_is_err_and c.from_residual.result c.from_residual.ensures.1 in
    let h = c.in_err-found.ensures.err in
    rw (p.1, p.2) (λ f e. (tbs_not_judged f c.args.brief e h.0, h.1))

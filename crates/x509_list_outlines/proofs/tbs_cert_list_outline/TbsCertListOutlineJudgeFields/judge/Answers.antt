use Rattle.std.proofs.Common.{refl}
use Rattle.std.proofs.lemmas.Result.{err_from_is_err_and}
use Rattle.x509_list_outlines.specs.TbsCertLists.{tbs_list_of}
use Rattle.x509_list_outlines.specs.facts.TbsBriefs.{list_judged, list_not_judged}
use Rattle.x509_list_outlines.proofs.tbs_cert_list_outline.TbsCertListOutlineJudgeFields.judge.Goals as goal

pub returns : goal.returns
returns g c = λ f e.
    let h = c.in_ok-found.ensures.ok in
    (tbs_list_of f, list_judged f c.args.brief _ e h.0 h.1, refl)

pub returns-in_err-found : goal.returns-in_err-found
returns-in_err-found g c =
    let p = err_from_is_err_and c.from_residual.result c.from_residual.ensures.1 in
    let h = c.in_err-found.ensures.err in
    rw (p.1, p.2) (λ f e. (list_not_judged f c.args.brief e h.0, h.1))

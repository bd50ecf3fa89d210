use Rattle.std.proofs.Common.{ap, subst, ◌∙◌}
use Rattle.x509_findings.specs.RequestFindings.{FirstBrokenByRequest}
use Rattle.x509_findings.specs.Places.{place_in_request}
use Rattle.x509_findings.proofs.Steps.{found_in_request}
use Rattle.x509_findings.proofs.request_findings.RequestFindings.next.Goals as goal

pub returns-clause-told : goal.returns-clause-told
returns-clause-told g c =
    let f = c.self.inside in
    let breaks = subst (FirstBrokenByRequest f.request.now f.left.now) c.in-Some.is c.in_ok-index.ensures in
    rw (← c.self.view_is) (found_in_request f.request.now f.places f.left.now c.in-Some.index _ c.split_at.result.1.now c.place_in_request.result breaks c.split_at.ensures.back (c.place_in_request.ensures ∙ ap (λ part. place_in_request part f.places) c.part.ensures))

use Rattle.std.proofs.Common.{ap, subst, ◌∙◌}
use Rattle.x509_findings.specs.Broken.{FirstBroken}
use Rattle.x509_findings.specs.Places.{place_of}
use Rattle.x509_findings.proofs.Steps.{found}
use Rattle.x509_findings.proofs.findings.Findings.next.Goals as goal

pub returns-clause-told : goal.returns-clause-told
returns-clause-told g c =
    let f = c.self.inside in
    let breaks = subst (FirstBroken f.certificate.now f.left.now) c.in-Some.is c.in_ok-index.ensures in
    rw (← c.self.view_is) (found f.certificate.now f.places f.left.now c.in-Some.index _ c.split_at.result.1.now c.place_of.result breaks c.split_at.ensures.back (c.place_of.ensures ∙ ap (λ part. place_of part f.places) c.part.ensures))

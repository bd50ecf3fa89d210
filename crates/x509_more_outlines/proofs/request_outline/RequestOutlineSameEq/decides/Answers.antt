use Rattle.std.proofs.Common.{refl}
use Rattle.x509_der.specs.facts.SameEq.{both_decide, made_decide}
use Rattle.x509_more_outlines.specs.declared.request_outline.RequestOutline.{RequestOutline}
use Rattle.x509_more_outlines.proofs.request_outline.RequestOutlineSameEq.decides.Goals as goal

pub returns : goal.returns
returns g c =
    made_decide
    (λ (v : RequestOutline g.row.A.Denot). (v.certification_request_info, (v.signature_algorithm, v.signature)))
    (λ f. record { certification_request_info = f.0; signature_algorithm = f.1.0; signature = f.1.1 })
    (λ v. refl)
    (both_decide c.decides.ensures (both_decide c.decides-2.ensures c.decides-3.ensures))

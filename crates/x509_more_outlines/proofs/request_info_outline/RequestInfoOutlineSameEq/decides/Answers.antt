use Rattle.std.proofs.Common.{refl}
use Rattle.x509_der.specs.facts.SameEq.{both_decide, made_decide}
use Rattle.x509_more_outlines.specs.declared.request_info_outline.RequestInfoOutline.{RequestInfoOutline}
use Rattle.x509_more_outlines.proofs.request_info_outline.RequestInfoOutlineSameEq.decides.Goals as goal

pub returns : goal.returns
returns g c =
    made_decide
    (λ (v : RequestInfoOutline g.row.A.Denot). (v.version, (v.subject, (v.subject_public_key_info, v.attributes))))
    (λ f. record { version = f.0; subject = f.1.0; subject_public_key_info = f.1.1.0; attributes = f.1.1.1 })
    (λ v. refl)
    (both_decide c.decides.ensures (both_decide c.decides-2.ensures (both_decide c.decides-3.ensures c.decides-4.ensures)))

use Rattle.std.proofs.Common.{refl}
use Rattle.x509_outline.specs.declared.certificate_outline.CertificateOutline.{CertificateOutline}
use Rattle.x509_der.specs.facts.SameEq.{both_decide, made_decide}
use Rattle.x509_outline.proofs.certificate_outline.CertificateOutlineSameEq.decides.Goals as goal

pub returns : goal.returns
returns g c =
    made_decide
    (λ (v : CertificateOutline g.row.A.Denot). (v.tbs_certificate, (v.signature_algorithm, v.signature_value)))
    (λ f. record { tbs_certificate = f.0; signature_algorithm = f.1.0; signature_value = f.1.1 })
    (λ v. refl)
    (both_decide c.decides.ensures (both_decide c.decides-2.ensures c.decides-3.ensures))

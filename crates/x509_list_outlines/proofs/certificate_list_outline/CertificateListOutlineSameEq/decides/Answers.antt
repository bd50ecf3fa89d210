use Rattle.std.proofs.Common.{refl}
use Rattle.x509_list_outlines.specs.declared.certificate_list_outline.CertificateListOutline.{CertificateListOutline}
use Rattle.x509_der.specs.facts.SameEq.{both_decide, made_decide}
use Rattle.x509_list_outlines.proofs.certificate_list_outline.CertificateListOutlineSameEq.decides.Goals as goal

pub returns : goal.returns
returns g c =
    made_decide
    (λ (v : CertificateListOutline g.row.A.Denot). (v.tbs_cert_list, (v.signature_algorithm, v.signature_value)))
    (λ f. record { tbs_cert_list = f.0; signature_algorithm = f.1.0; signature_value = f.1.1 })
    (λ v. refl)
    (both_decide c.decides.ensures (both_decide c.decides-2.ensures c.decides-3.ensures))

use Rattle.std.proofs.Common.{refl}
use Rattle.x509_der.specs.facts.SameEq.{both_decide, made_decide}
use Rattle.x509_list_outlines.specs.declared.revoked_certificate_outline.RevokedCertificateOutline.{RevokedCertificateOutline}
use Rattle.x509_list_outlines.proofs.revoked_certificate_outline.RevokedCertificateOutlineSameEq.decides.Goals as goal

pub returns : goal.returns
returns g c =
    made_decide (λ (v : RevokedCertificateOutline g.row.A.Denot). (v.user_certificate, (v.revocation_date, v.crl_entry_extensions)))
    (λ f. record { user_certificate = f.0; revocation_date = f.1.0; crl_entry_extensions = f.1.1 }) (λ v. refl)
    (both_decide c.decides.ensures (both_decide c.decides-2.ensures c.decides-3.ensures))

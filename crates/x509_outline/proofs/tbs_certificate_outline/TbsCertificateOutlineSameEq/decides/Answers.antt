use Rattle.std.proofs.Common.{refl}
use Rattle.x509_outline.specs.declared.tbs_certificate_outline.TbsCertificateOutline.{TbsCertificateOutline}
use Rattle.x509_der.specs.facts.SameEq.{both_decide, made_decide}
use Rattle.x509_outline.proofs.tbs_certificate_outline.TbsCertificateOutlineSameEq.decides.Goals as goal

pub returns : goal.returns
returns g c =
    made_decide
    (λ (v : TbsCertificateOutline g.row.A.Denot). (v.version, (v.serial_number, (v.signature, (v.issuer, (v.validity, (v.subject, (v.subject_public_key_info, (v.issuer_unique_id, (v.subject_unique_id, v.extensions))))))))))
    (λ f. record { version = f.0; serial_number = f.1.0; signature = f.1.1.0; issuer = f.1.1.1.0; validity = f.1.1.1.1.0; subject = f.1.1.1.1.1.0; subject_public_key_info = f.1.1.1.1.1.1.0; issuer_unique_id = f.1.1.1.1.1.1.1.0; subject_unique_id = f.1.1.1.1.1.1.1.1.0; extensions = f.1.1.1.1.1.1.1.1.1 })
    (λ v. refl)
    (both_decide c.decides.ensures (both_decide c.decides-2.ensures (both_decide c.decides-3.ensures (both_decide c.decides-4.ensures (both_decide c.decides-5.ensures (both_decide c.decides-4.ensures (both_decide c.decides-6.ensures (both_decide c.decides-7.ensures (both_decide c.decides-7.ensures c.decides-8.ensures)))))))))

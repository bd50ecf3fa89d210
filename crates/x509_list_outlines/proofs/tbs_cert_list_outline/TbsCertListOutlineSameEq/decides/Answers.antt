use Rattle.std.proofs.Common.{refl}
use Rattle.x509_list_outlines.specs.declared.tbs_cert_list_outline.TbsCertListOutline.{TbsCertListOutline}
use Rattle.x509_der.specs.facts.SameEq.{both_decide, made_decide}
use Rattle.x509_list_outlines.proofs.tbs_cert_list_outline.TbsCertListOutlineSameEq.decides.Goals as goal

pub returns : goal.returns
returns g c =
    made_decide
    (λ (v : TbsCertListOutline g.row.A.Denot). (v.version, (v.signature, (v.issuer, (v.this_update, (v.next_update, (v.revoked_certificates, v.crl_extensions)))))))
    (λ f. record { version = f.0; signature = f.1.0; issuer = f.1.1.0; this_update = f.1.1.1.0; next_update = f.1.1.1.1.0; revoked_certificates = f.1.1.1.1.1.0; crl_extensions = f.1.1.1.1.1.1 })
    (λ v. refl)
    (both_decide c.decides.ensures (both_decide c.decides-2.ensures (both_decide c.decides-3.ensures (both_decide c.decides-4.ensures (both_decide c.decides-5.ensures (both_decide c.decides-6.ensures c.decides-7.ensures))))))

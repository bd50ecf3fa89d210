use Rattle.std.proofs.Common.{refl}
use Rattle.picky_asn1_x509.specs.declared.certification_request.CertificationRequestInfo.{CertificationRequestInfo}
use Rattle.x509_der.specs.facts.SameEq.{both_decide, made_decide}
use Rattle.picky_asn1_x509.proofs.same_eq.CertificationRequestInfoSameEq.decides.Goals as goal

pub returns : goal.returns
returns g c =
    made_decide
    (λ (v : CertificationRequestInfo g.row.A.Denot). (v.version, (v.subject, (v.subject_public_key_info, v.attributes))))
    (λ f. record { version = f.0; subject = f.1.0; subject_public_key_info = f.1.1.0; attributes = f.1.1.1 })
    (λ v. refl)
    (both_decide c.decides.ensures (both_decide c.decides-2.ensures (both_decide c.decides-3.ensures c.decides-4.ensures)))

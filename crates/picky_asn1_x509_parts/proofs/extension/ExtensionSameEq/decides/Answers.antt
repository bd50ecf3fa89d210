use Rattle.std.proofs.Common.{refl}
use Rattle.picky_asn1_x509_parts.specs.Extensions.{ExtensionFields, made}
use Rattle.x509_der.specs.facts.SameEq.{both_decide, made_decide}
use Rattle.picky_asn1_x509_parts.proofs.extension.ExtensionSameEq.decides.Goals as goal

pub returns : goal.returns
returns g c =
    made_decide (λ (v : ExtensionFields g.row.A.Denot). (v.extn_id, (v.critical, v.extn_value)))
    (λ f. made f.0 f.1.0 f.1.1) (λ v. refl)
    (both_decide c.decides.ensures (both_decide c.decides-2.ensures c.decides-3.ensures))

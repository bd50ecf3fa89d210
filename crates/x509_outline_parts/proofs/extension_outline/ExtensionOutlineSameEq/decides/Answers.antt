use Rattle.std.proofs.Common.{refl}
use Rattle.x509_der.specs.facts.SameEq.{both_decide, made_decide}
use Rattle.x509_outline_parts.specs.declared.extension_outline.ExtensionOutline.{ExtensionOutline}
use Rattle.x509_outline_parts.proofs.extension_outline.ExtensionOutlineSameEq.decides.Goals as goal

pub returns : goal.returns
returns g c =
    made_decide (λ (v : ExtensionOutline g.row.A.Denot). (v.extn_id, (v.critical, v.extn_value)))
    (λ f. record { extn_id = f.0; critical = f.1.0; extn_value = f.1.1 }) (λ v. refl)
    (both_decide c.decides.ensures (both_decide c.decides-2.ensures c.decides-3.ensures))

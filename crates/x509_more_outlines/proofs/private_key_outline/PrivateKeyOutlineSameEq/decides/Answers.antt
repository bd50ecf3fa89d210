use Rattle.std.proofs.Common.{refl}
use Rattle.x509_der.specs.facts.SameEq.{both_decide, made_decide}
use Rattle.x509_more_outlines.specs.declared.private_key_outline.PrivateKeyOutline.{PrivateKeyOutline}
use Rattle.x509_more_outlines.proofs.private_key_outline.PrivateKeyOutlineSameEq.decides.Goals as goal

pub returns : goal.returns
returns g c =
    made_decide
    (λ (v : PrivateKeyOutline g.row.A.Denot). (v.version, (v.private_key_algorithm, (v.private_key, (v.attributes, v.public_key)))))
    (λ f. record { version = f.0; private_key_algorithm = f.1.0; private_key = f.1.1.0; attributes = f.1.1.1.0; public_key = f.1.1.1.1 })
    (λ v. refl)
    (both_decide c.decides.ensures (both_decide c.decides-2.ensures (both_decide c.decides-3.ensures (both_decide c.decides-4.ensures c.decides-5.ensures))))

use Rattle.std.proofs.Common.{refl}
use Rattle.x509_keys.specs.PrivateKeyInfos.{info_with}
use Rattle.x509_keys.specs.declared.private_key_info.PrivateKeyInfo.{PrivateKeyInfo}
use Rattle.x509_der.specs.facts.SameEq.{both_decide, made_decide}
use Rattle.x509_keys.proofs.private_key_info.PrivateKeyInfoSameEq.decides.Goals as goal

pub returns : goal.returns
returns g c =
    made_decide
    (λ (v : PrivateKeyInfo g.row.A.Denot). (v.version, (v.private_key_algorithm, (v.private_key, v.public_key))))
    (λ f. info_with f.0 f.1.0 f.1.1.0 f.1.1.1) (λ v. refl)
    (both_decide c.decides.ensures (both_decide c.decides-2.ensures (both_decide c.decides-3.ensures c.decides-4.ensures)))

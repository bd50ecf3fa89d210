use Rattle.std.proofs.Common.{refl}
use Rattle.x509_keys.specs.EcPrivateKeys.{ec_key_parts, ec_key_of}
use Rattle.x509_der.specs.facts.SameEq.{both_decide, made_decide}
use Rattle.x509_keys.proofs.ec_private_key.ECPrivateKeySameEq.decides.Goals as goal

pub returns : goal.returns
returns g c =
    made_decide ec_key_parts ec_key_of (λ v. refl)
    (both_decide c.decides.ensures (both_decide c.decides-2.ensures (both_decide c.decides-3.ensures c.decides-4.ensures)))

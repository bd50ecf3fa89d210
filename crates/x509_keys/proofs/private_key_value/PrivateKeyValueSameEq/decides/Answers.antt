use Rattle.std.proofs.Common.{ap}
use Rattle.x509_keys.specs.declared.private_key_value.PrivateKeyValue.TheVariants as key
use Rattle.x509_keys.proofs.private_key_value.PrivateKeyValueSameEq.decides.Goals as goal

pub returns : goal.returns
returns g c (key.Rsa x) (key.Rsa y) = let d = c.decides.ensures x y in (λ h. ap key.Rsa (d.0 h), λ h. d.1 (cc))
returns g c (key.EC x) (key.EC y) = let d = c.decides-2.ensures x y in (λ h. ap key.EC (d.0 h), λ h. d.1 (cc))
returns g c (key.ED x) (key.ED y) = let d = c.decides-3.ensures x y in (λ h. ap key.ED (d.0 h), λ h. d.1 (cc))
returns g c x y = (λ h. cc, λ h. cc)

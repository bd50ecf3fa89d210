use Rattle.std.proofs.Common.{ap}
use Rattle.x509_more_outlines.specs.declared.public_bits_outline.PublicBitsOutline.TheVariants as variant
use Rattle.x509_more_outlines.proofs.public_bits_outline.PublicBitsOutlineSameEq.decides.Goals as goal

pub returns : goal.returns
returns g c (variant.Implicit x) (variant.Implicit y) = let d = c.decides.ensures x y in (λ h. ap variant.Implicit (d.0 h), λ h. d.1 (cc))
returns g c (variant.Explicit x) (variant.Explicit y) = let d = c.decides.ensures x y in (λ h. ap variant.Explicit (d.0 h), λ h. d.1 (cc))
returns g c x y = (λ h. cc, λ h. cc)

-- That == of DisplayText tells the same, written by tools/structures.py from declarations.asn1.
use Rattle.std.proofs.Common.{ap}
use Rattle.x509_policies.specs.declared.structures.display_text.DisplayText.TheVariants as variant
use Rattle.x509_policies.proofs.structures.display_text.DisplayTextSameEq.decides.Goals as goal

pub returns : goal.returns
returns g c (variant.Ia5String x) (variant.Ia5String y) = let d = c.decides.ensures x y in (λ h. ap variant.Ia5String (d.0 h), λ h. d.1 (cc))
returns g c (variant.VisibleString x) (variant.VisibleString y) = let d = c.decides-2.ensures x y in (λ h. ap variant.VisibleString (d.0 h), λ h. d.1 (cc))
returns g c (variant.BmpString x) (variant.BmpString y) = let d = c.decides-3.ensures x y in (λ h. ap variant.BmpString (d.0 h), λ h. d.1 (cc))
returns g c (variant.Utf8String x) (variant.Utf8String y) = let d = c.decides-4.ensures x y in (λ h. ap variant.Utf8String (d.0 h), λ h. d.1 (cc))
returns g c x y = (λ h. cc, λ h. cc)

-- That == of DistributionPointName tells the same, written by tools/structures.py from declarations.asn1.
use Rattle.std.proofs.Common.{ap}
use Rattle.x509_distribution_points.specs.declared.structures.distribution_point_name.DistributionPointName.TheVariants as variant
use Rattle.x509_distribution_points.proofs.structures.distribution_point_name.DistributionPointNameSameEq.decides.Goals as goal

pub returns : goal.returns
returns g c (variant.FullName x) (variant.FullName y) = let d = c.decides.ensures x y in (λ h. ap variant.FullName (d.0 h), λ h. d.1 (cc))
returns g c (variant.NameRelativeToCrlIssuer x) (variant.NameRelativeToCrlIssuer y) = let d = c.decides-2.ensures x y in (λ h. ap variant.NameRelativeToCrlIssuer (d.0 h), λ h. d.1 (cc))
returns g c x y = (λ h. cc, λ h. cc)

-- The alternative of DistributionPointName that was taken, written by tools/structures.py from declarations.asn1.
use Rattle.std.proofs.Common.{ℕ, List}
use Rattle.x509_der.specs.Tally.{Tally}
use Rattle.x509_der.specs.Fields.{Stands}
use Rattle.x509_der.specs.Items.{items}
use Rattle.x509_der.specs.Tagged.{tagged}
use Rattle.x509_names.specs.Attributes.{attribute}
use Rattle.x509_names.specs.GeneralNames.{general_name}
use Rattle.x509_distribution_points.specs.declared.structures.distribution_point_name.DistributionPointName.{DistributionPointName}
use Rattle.x509_distribution_points.specs.declared.structures.distribution_point_name.DistributionPointName.TheVariants as variant

abbrev pub DistributionPointNameAt : {A : Type 0} → DistributionPointName A → List ℕ → Tally → Type 0
DistributionPointNameAt (variant.FullName v) string y = Stands (tagged 160 (items general_name)) v 0 string string y
DistributionPointNameAt (variant.NameRelativeToCrlIssuer v) string y = Stands (tagged 161 (items attribute)) v 0 string string y

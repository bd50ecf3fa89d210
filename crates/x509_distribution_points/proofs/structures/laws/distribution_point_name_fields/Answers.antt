-- The law of fields of DistributionPointName, written by tools/structures.py from declarations.asn1.
use Rattle.x509_der.specs.facts.FieldPlaces.{stands_parts, stands_first, stands_second}
use Rattle.x509_der.specs.Items.{items}
use Rattle.x509_der.specs.Tagged.{tagged}
use Rattle.x509_names.specs.Attributes.{attribute}
use Rattle.x509_names.specs.GeneralNames.{general_name}
use Rattle.x509_distribution_points.specs.DistributionPointName.{distribution_point_name_parts, distribution_point_name_base}
use Rattle.x509_distribution_points.specs.declared.structures.distribution_point_name.DistributionPointName.TheVariants as variant
use Rattle.x509_distribution_points.proofs.structures.laws.distribution_point_name_fields.Goals as goal

pub returns : goal.returns
returns g c (variant.FullName v) string y a = stands_first (tagged 160 (items general_name)) ((tagged 161 (items attribute))) v 0 string string y (stands_parts distribution_point_name_parts distribution_point_name_base (variant.FullName v) 0 string string y (c.fields.ensures (variant.FullName v) string y a))
returns g c (variant.NameRelativeToCrlIssuer v) string y a = stands_second (tagged 160 (items general_name)) ((tagged 161 (items attribute))) v 0 string string y (stands_parts distribution_point_name_parts distribution_point_name_base (variant.NameRelativeToCrlIssuer v) 0 string string y (c.fields.ensures (variant.NameRelativeToCrlIssuer v) string y a))

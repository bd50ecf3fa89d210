-- Where a revocation list is found (RFC 5280, 4.2.1.13).
use Rattle.std.specs.Prelude.{List}
use Rattle.x509_der.specs.Types.{Choice}
use Rattle.x509_der.specs.Types.choice.{First, Second}
use Rattle.x509_der.specs.Shape.{Shape}
use Rattle.x509_der.specs.Tagged.{tagged}
use Rattle.x509_der.specs.Choice.{choice}
use Rattle.x509_der.specs.Items.{items}
use Rattle.x509_der.specs.Structure.{structure}
use Rattle.x509_names.specs.Attributes.{attribute}
use Rattle.x509_names.specs.GeneralNames.{general_name}
use Rattle.x509_names.specs.declared.attribute_type_and_value.AttributeTypeAndValue.{AttributeTypeAndValue}
use Rattle.x509_names.specs.declared.general_name.GeneralName.{GeneralName}
use Rattle.x509_distribution_points.specs.declared.structures.distribution_point_name.DistributionPointName.{DistributionPointName}
use Rattle.x509_distribution_points.specs.declared.structures.distribution_point_name.DistributionPointName.TheVariants as place

abbrev pub Fields : Type 0 → Type 0
Fields A = Choice (List (GeneralName A)) (List (AttributeTypeAndValue A))

abbrev pub distribution_point_name_parts : {A : Type 0} → DistributionPointName A → Fields A
distribution_point_name_parts (place.FullName v) = First v
distribution_point_name_parts (place.NameRelativeToCrlIssuer v) = Second v

-- CHOICE { fullName [0] GeneralNames, nameRelativeToCRLIssuer [1] RelativeDistinguishedName }, with implicit tags: in the place
-- of the tags of SEQUENCE OF GeneralName and SET OF AttributeTypeAndValue; empty ones are alternatives too
abbrev pub distribution_point_name_base : {A : Type 0} → Shape (Fields A)
distribution_point_name_base = choice (tagged 160 (items general_name)) (tagged 161 (items attribute))

abbrev pub distribution_point_name : {A : Type 0} → Shape (DistributionPointName A)
distribution_point_name = structure distribution_point_name_parts distribution_point_name_base

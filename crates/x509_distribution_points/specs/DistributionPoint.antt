-- Where revocation lists are found, which reasons they cover, and who issues them (RFC 5280, 4.2.1.13).
use Rattle.std.specs.Prelude.{Bool, List, Option}
use Rattle.x509_der.specs.Shape.{Shape}
use Rattle.x509_der.specs.Tagged.{tagged}
use Rattle.x509_der.specs.Join.{join}
use Rattle.x509_der.specs.Items.{items}
use Rattle.x509_der.specs.Optional.{optional}
use Rattle.x509_der.specs.Structure.{structure}
use Rattle.x509_der.specs.BitString.{bit_strings}
use Rattle.x509_names.specs.GeneralNames.{general_name}
use Rattle.x509_names.specs.declared.general_name.GeneralName.{GeneralName}
use Rattle.x509_distribution_points.specs.DistributionPointName.{distribution_point_name}
use Rattle.x509_distribution_points.specs.declared.structures.distribution_point_name.DistributionPointName.{DistributionPointName}
use Rattle.x509_distribution_points.specs.declared.structures.distribution_point.DistributionPoint.{DistributionPoint}

abbrev pub Fields : Type 0 → Type 0
Fields A = Option (DistributionPointName A) × (Option (List Bool) × Option (List (GeneralName A)))

abbrev pub distribution_point_parts : {A : Type 0} → DistributionPoint A → Fields A
distribution_point_parts v = (v.distribution_point, (v.reasons, v.crl_issuer))

-- distributionPoint [0] DistributionPointName OPTIONAL, reasons [1] ReasonFlags OPTIONAL, cRLIssuer [2] GeneralNames OPTIONAL,
-- with implicit tags, but for the first, which stands around a CHOICE and so is explicit (X.680, 31.2.7)
abbrev pub distribution_point_inner : {A : Type 0} → Shape (Fields A)
distribution_point_inner =
    join (λ j. j.0) (λ j. j.1) (optional (tagged 160 distribution_point_name))
    (join (λ j. j.0) (λ j. j.1) (optional (tagged 129 bit_strings)) (optional (tagged 162 (items general_name))))

abbrev pub distribution_point_content : {A : Type 0} → Shape (DistributionPoint A)
distribution_point_content = structure distribution_point_parts distribution_point_inner

-- DistributionPoint ::= SEQUENCE { distributionPoint, reasons, cRLIssuer }
abbrev pub distribution_point : {A : Type 0} → Shape (DistributionPoint A)
distribution_point = tagged 48 distribution_point_content

-- CRLDistributionPoints ::= SEQUENCE SIZE (1..MAX) OF DistributionPoint; an empty list is one too.
-- FreshestCRL ::= CRLDistributionPoints (RFC 5280, 4.2.1.15)
abbrev pub crl_distribution_points : {A : Type 0} → Shape (List (DistributionPoint A))
crl_distribution_points = tagged 48 (items distribution_point)

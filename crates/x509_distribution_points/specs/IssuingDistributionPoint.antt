-- Which certificates a revocation list covers, and where it is found (RFC 5280, 5.2.5).
use Rattle.std.specs.Prelude.{Bool, List, Option}
use Rattle.x509_der.specs.Shape.{Shape}
use Rattle.x509_der.specs.Tagged.{tagged}
use Rattle.x509_der.specs.Join.{join}
use Rattle.x509_der.specs.Optional.{optional}
use Rattle.x509_der.specs.Structure.{structure}
use Rattle.x509_der.specs.BitString.{bit_strings}
use Rattle.x509_der.specs.Boolean.{booleans}
use Rattle.x509_distribution_points.specs.DistributionPointName.{distribution_point_name}
use Rattle.x509_distribution_points.specs.declared.structures.distribution_point_name.DistributionPointName.{DistributionPointName}
use Rattle.x509_distribution_points.specs.declared.structures.issuing_distribution_point.IssuingDistributionPoint.{IssuingDistributionPoint}

abbrev pub Flags : Type 0
Flags = Option Bool × Option Bool

abbrev pub Fields : Type 0 → Type 0
Fields A = Option (DistributionPointName A) × (Option Bool × (Option Bool × (Option (List Bool) × Flags)))

abbrev pub issuing_distribution_point_parts : {A : Type 0} → IssuingDistributionPoint A → Fields A
issuing_distribution_point_parts v = (
  v.distribution_point,
  (
    v.only_contains_user_certs,
    (
      v.only_contains_ca_certs,
      (v.only_some_reasons, (v.indirect_crl, v.only_contains_attribute_certs)),
    ),
  ),
)

-- indirectCRL [4] BOOLEAN DEFAULT FALSE, onlyContainsAttributeCerts [5] BOOLEAN DEFAULT FALSE
abbrev pub last_flags : Shape Flags
last_flags = join (λ j. j.0) (λ j. j.1) (optional (tagged 132 booleans)) (optional (tagged 133 booleans))

-- distributionPoint [0] DistributionPointName OPTIONAL, onlyContainsUserCerts [1] BOOLEAN DEFAULT FALSE,
-- onlyContainsCACerts [2] BOOLEAN DEFAULT FALSE, onlySomeReasons [3] ReasonFlags OPTIONAL, and the last two, with implicit tags,
-- but for the first, which stands around a CHOICE. A FALSE may be absent or be there
abbrev pub issuing_distribution_point_inner : {A : Type 0} → Shape (Fields A)
issuing_distribution_point_inner =
    join (λ j. j.0) (λ j. j.1) (optional (tagged 160 distribution_point_name))
    (join (λ j. j.0) (λ j. j.1) (optional (tagged 129 booleans))
    (join (λ j. j.0) (λ j. j.1) (optional (tagged 130 booleans))
    (join (λ j. j.0) (λ j. j.1) (optional (tagged 131 bit_strings)) last_flags)))

abbrev pub issuing_distribution_point_content : {A : Type 0} → Shape (IssuingDistributionPoint A)
issuing_distribution_point_content = structure issuing_distribution_point_parts issuing_distribution_point_inner

-- IssuingDistributionPoint ::= SEQUENCE { distributionPoint, onlyContainsUserCerts, .. }
abbrev pub issuing_distribution_point : {A : Type 0} → Shape (IssuingDistributionPoint A)
issuing_distribution_point = tagged 48 issuing_distribution_point_content

-- The parameters of an elliptic curve key (RFC 5480, 2.1.1).
use Rattle.std.specs.Prelude.{ℕ, List}
use Rattle.x509_keys_parts.specs.declared.ec_parameters.EcParameters.{EcParameters}
use Rattle.x509_keys_parts.specs.declared.ec_parameters.EcParameters.TheVariants.{NamedCurve}
use Rattle.x509_der.specs.Shape.{Shape}
use Rattle.x509_der.specs.Tagged.{tagged}
use Rattle.x509_der.specs.ObjectIdentifier.{oids}
use Rattle.x509_der.specs.Structure.{structure}

-- the arcs of the curve
abbrev pub curve_of : {A : Type 0} → EcParameters A → List ℕ
curve_of (NamedCurve arcs) = arcs

-- CHOICE { namedCurve OBJECT IDENTIFIER }
abbrev pub ec_base : Shape (List ℕ)
ec_base = tagged 6 oids

abbrev pub ec_parameters : {A : Type 0} → Shape (EcParameters A)
ec_parameters = structure curve_of ec_base

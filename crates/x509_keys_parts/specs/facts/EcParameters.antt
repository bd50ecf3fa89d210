-- The parameters of an elliptic curve key are told by their curve.
use Rattle.std.proofs.Common.{◌≡◌, refl}
use Rattle.x509_der.specs.facts.Lists.{same_one}
use Rattle.x509_keys_parts.specs.declared.ec_parameters.EcParameters.{EcParameters}
use Rattle.x509_keys_parts.specs.declared.ec_parameters.EcParameters.TheVariants.{NamedCurve}
use Rattle.x509_keys_parts.specs.EcParameters.{curve_of}

ec_made : {A : Type 0} (v : EcParameters A) → NamedCurve (curve_of v) ≡ v
ec_made (NamedCurve arcs) = refl

pub ec_same : {A : Type 0} (v w : EcParameters A) → curve_of v ≡ curve_of w → v ≡ w
ec_same = same_one curve_of NamedCurve ec_made

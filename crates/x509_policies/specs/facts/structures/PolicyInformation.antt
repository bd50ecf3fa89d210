-- Facts about PolicyInformation, written by tools/structures.py from declarations.asn1.
use Rattle.std.proofs.Common.{◌≡◌, ap}
use Rattle.x509_policies.specs.declared.structures.policy_information.PolicyInformation.{PolicyInformation}
use Rattle.x509_policies.specs.PolicyInformation.{Fields, policy_information_parts}

abbrev pub policy_information_of : {A : Type 0} → Fields A → PolicyInformation A
policy_information_of f = record { policy_identifier = f.0; policy_qualifiers = f.1 }

pub policy_information_same : {A : Type 0} (v w : PolicyInformation A) → policy_information_parts v ≡ policy_information_parts w → v ≡ w
policy_information_same v w e = ap policy_information_of e

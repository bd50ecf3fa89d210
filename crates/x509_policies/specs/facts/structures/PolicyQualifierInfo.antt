-- Facts about PolicyQualifierInfo, written by tools/structures.py from declarations.asn1.
use Rattle.std.proofs.Common.{◌≡◌, ap}
use Rattle.x509_policies.specs.declared.structures.policy_qualifier_info.PolicyQualifierInfo.{PolicyQualifierInfo}
use Rattle.x509_policies.specs.PolicyQualifierInfo.{Fields, policy_qualifier_info_parts}

abbrev pub policy_qualifier_info_of : {A : Type 0} → Fields A → PolicyQualifierInfo A
policy_qualifier_info_of f = record { policy_qualifier_id = f.0; qualifier = f.1 }

pub policy_qualifier_info_same : {A : Type 0} (v w : PolicyQualifierInfo A) → policy_qualifier_info_parts v ≡ policy_qualifier_info_parts w → v ≡ w
policy_qualifier_info_same v w e = ap policy_qualifier_info_of e

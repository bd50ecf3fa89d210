-- Facts about PolicyMapping, written by tools/structures.py from declarations.asn1.
use Rattle.std.proofs.Common.{◌≡◌, ap}
use Rattle.x509_more_extensions.specs.declared.structures.policy_mapping.PolicyMapping.{PolicyMapping}
use Rattle.x509_more_extensions.specs.PolicyMapping.{Fields, policy_mapping_parts}

abbrev pub policy_mapping_of : {A : Type 0} → Fields A → PolicyMapping A
policy_mapping_of f = record { issuer_domain_policy = f.0; subject_domain_policy = f.1 }

pub policy_mapping_same : {A : Type 0} (v w : PolicyMapping A) → policy_mapping_parts v ≡ policy_mapping_parts w → v ≡ w
policy_mapping_same v w e = ap policy_mapping_of e

-- That == of PolicyMapping tells the same, written by tools/structures.py from declarations.asn1.
use Rattle.x509_more_extensions.specs.PolicyMapping.{policy_mapping_parts}
use Rattle.x509_more_extensions.specs.facts.structures.PolicyMapping.{policy_mapping_same}
use Rattle.x509_der.specs.facts.SameEq.{both_decide, told_decide}
use Rattle.x509_more_extensions.proofs.structures.policy_mapping.PolicyMappingSameEq.decides.Goals as goal

pub returns : goal.returns
returns g c = told_decide policy_mapping_parts policy_mapping_same (both_decide c.decides.ensures c.decides.ensures)

-- That == of PolicyQualifierInfo tells the same, written by tools/structures.py from declarations.asn1.
use Rattle.x509_policies.specs.PolicyQualifierInfo.{policy_qualifier_info_parts}
use Rattle.x509_policies.specs.facts.structures.PolicyQualifierInfo.{policy_qualifier_info_same}
use Rattle.x509_der.specs.facts.SameEq.{both_decide, told_decide}
use Rattle.x509_policies.proofs.structures.policy_qualifier_info.PolicyQualifierInfoSameEq.decides.Goals as goal

pub returns : goal.returns
returns g c = told_decide policy_qualifier_info_parts policy_qualifier_info_same (both_decide c.decides.ensures c.decides-2.ensures)

-- That == of PolicyInformation tells the same, written by tools/structures.py from declarations.asn1.
use Rattle.x509_policies.specs.PolicyInformation.{policy_information_parts}
use Rattle.x509_policies.specs.facts.structures.PolicyInformation.{policy_information_same}
use Rattle.x509_der.specs.facts.SameEq.{both_decide, told_decide}
use Rattle.x509_policies.proofs.structures.policy_information.PolicyInformationSameEq.decides.Goals as goal

pub returns : goal.returns
returns g c = told_decide policy_information_parts policy_information_same (both_decide c.decides.ensures c.decides-2.ensures)

-- That == of PolicyConstraints tells the same, written by tools/structures.py from declarations.asn1.
use Rattle.x509_more_extensions.specs.PolicyConstraints.{policy_constraints_parts}
use Rattle.x509_more_extensions.specs.facts.structures.PolicyConstraints.{policy_constraints_same}
use Rattle.x509_der.specs.facts.SameEq.{both_decide, told_decide}
use Rattle.x509_more_extensions.proofs.structures.policy_constraints.PolicyConstraintsSameEq.decides.Goals as goal

pub returns : goal.returns
returns g c = told_decide policy_constraints_parts policy_constraints_same (both_decide c.decides.ensures c.decides.ensures)

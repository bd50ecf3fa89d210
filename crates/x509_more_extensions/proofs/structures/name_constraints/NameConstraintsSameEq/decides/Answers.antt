-- That == of NameConstraints tells the same, written by tools/structures.py from declarations.asn1.
use Rattle.x509_more_extensions.specs.NameConstraints.{name_constraints_parts}
use Rattle.x509_more_extensions.specs.facts.structures.NameConstraints.{name_constraints_same}
use Rattle.x509_der.specs.facts.SameEq.{both_decide, told_decide}
use Rattle.x509_more_extensions.proofs.structures.name_constraints.NameConstraintsSameEq.decides.Goals as goal

pub returns : goal.returns
returns g c = told_decide name_constraints_parts name_constraints_same (both_decide c.decides.ensures c.decides.ensures)

-- That == of GeneralSubtree tells the same, written by tools/structures.py from declarations.asn1.
use Rattle.x509_more_extensions.specs.GeneralSubtree.{general_subtree_parts}
use Rattle.x509_more_extensions.specs.facts.structures.GeneralSubtree.{general_subtree_same}
use Rattle.x509_der.specs.facts.SameEq.{both_decide, told_decide}
use Rattle.x509_more_extensions.proofs.structures.general_subtree.GeneralSubtreeSameEq.decides.Goals as goal

pub returns : goal.returns
returns g c = told_decide general_subtree_parts general_subtree_same (both_decide c.decides.ensures (both_decide c.decides-2.ensures c.decides-2.ensures))

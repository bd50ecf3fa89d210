-- That == of NoticeReference tells the same, written by tools/structures.py from declarations.asn1.
use Rattle.x509_policies.specs.NoticeReference.{notice_reference_parts}
use Rattle.x509_policies.specs.facts.structures.NoticeReference.{notice_reference_same}
use Rattle.x509_der.specs.facts.SameEq.{both_decide, told_decide}
use Rattle.x509_policies.proofs.structures.notice_reference.NoticeReferenceSameEq.decides.Goals as goal

pub returns : goal.returns
returns g c = told_decide notice_reference_parts notice_reference_same (both_decide c.decides.ensures c.decides-2.ensures)

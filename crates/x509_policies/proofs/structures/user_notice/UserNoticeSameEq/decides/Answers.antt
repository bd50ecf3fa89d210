-- That == of UserNotice tells the same, written by tools/structures.py from declarations.asn1.
use Rattle.x509_policies.specs.UserNotice.{user_notice_parts}
use Rattle.x509_policies.specs.facts.structures.UserNotice.{user_notice_same}
use Rattle.x509_der.specs.facts.SameEq.{both_decide, told_decide}
use Rattle.x509_policies.proofs.structures.user_notice.UserNoticeSameEq.decides.Goals as goal

pub returns : goal.returns
returns g c = told_decide user_notice_parts user_notice_same (both_decide c.decides.ensures c.decides-2.ensures)

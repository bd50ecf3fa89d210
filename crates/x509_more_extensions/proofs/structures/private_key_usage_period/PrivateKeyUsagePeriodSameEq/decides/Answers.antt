-- That == of PrivateKeyUsagePeriod tells the same, written by tools/structures.py from declarations.asn1.
use Rattle.x509_more_extensions.specs.PrivateKeyUsagePeriod.{private_key_usage_period_parts}
use Rattle.x509_more_extensions.specs.facts.structures.PrivateKeyUsagePeriod.{private_key_usage_period_same}
use Rattle.x509_der.specs.facts.SameEq.{both_decide, told_decide}
use Rattle.x509_more_extensions.proofs.structures.private_key_usage_period.PrivateKeyUsagePeriodSameEq.decides.Goals as goal

pub returns : goal.returns
returns c = told_decide private_key_usage_period_parts private_key_usage_period_same (both_decide c.decides.ensures c.decides.ensures)

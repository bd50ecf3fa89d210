use Rattle.x509_keys_parts.specs.DigestInfos.{digest_info_parts}
use Rattle.x509_keys_parts.specs.facts.DigestInfoFacts.{digest_info_same}
use Rattle.x509_der.specs.facts.SameEq.{both_decide, told_decide}
use Rattle.x509_keys_parts.proofs.digest_info.DigestInfoSameEq.decides.Goals as goal

pub returns : goal.returns
returns g c = told_decide digest_info_parts digest_info_same (both_decide c.decides.ensures c.decides-2.ensures)

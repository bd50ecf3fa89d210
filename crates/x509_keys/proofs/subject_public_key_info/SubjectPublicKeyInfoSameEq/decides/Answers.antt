use Rattle.x509_keys.specs.SubjectPublicKeyInfos.{subject_parts}
use Rattle.x509_keys.specs.facts.SubjectPublicKeyInfos.{subject_same}
use Rattle.x509_der.specs.facts.SameEq.{both_decide, told_decide}
use Rattle.x509_keys.proofs.subject_public_key_info.SubjectPublicKeyInfoSameEq.decides.Goals as goal

pub returns : goal.returns
returns g c = told_decide subject_parts subject_same (both_decide c.decides.ensures c.decides-2.ensures)

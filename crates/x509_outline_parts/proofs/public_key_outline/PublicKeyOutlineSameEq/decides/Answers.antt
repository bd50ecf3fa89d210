use Rattle.x509_der.specs.facts.SameEq.{both_decide, told_decide}
use Rattle.x509_outline_parts.specs.PublicKeys.{key_parts}
use Rattle.x509_outline_parts.specs.facts.PublicKeys.{key_same}
use Rattle.x509_outline_parts.proofs.public_key_outline.PublicKeyOutlineSameEq.decides.Goals as goal

pub returns : goal.returns
returns g c = told_decide key_parts key_same (both_decide c.decides.ensures c.decides-2.ensures)

use Rattle.x509_der.specs.facts.BitString.{bits_decide}
use Rattle.x509_der.proofs.bit_string.BitStringSameEq.decides.Goals as goal

pub returns : goal.returns
returns g c = bits_decide

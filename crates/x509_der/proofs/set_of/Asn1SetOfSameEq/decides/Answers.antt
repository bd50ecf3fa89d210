use Rattle.std.specs.Cmp.Lexicographic.{pointwise_decides}
use Rattle.x509_der.proofs.set_of.Asn1SetOfSameEq.decides.Goals as goal

pub returns : goal.returns
returns g c = pointwise_decides c.decides.ensures

use Rattle.x509_der.specs.facts.Lasts.{neighbours}
use Rattle.picky_asn1_x509_parts.proofs.laws.neighbours_ascend.Goals as goal

pub returns : goal.returns
returns g c = neighbours

use Rattle.std.proofs.Common.{arith}
use Rattle.x509_der.specs.facts.ObjectIdentifier.{septets_length}
use Rattle.x509_der.proofs.oid.numbers.Septets.len.Goals as goal

pub returns : goal.returns
returns c = rw (← c.self.view_is) (omega (arith, septets_length c.self.inside.0, c.high_len.ensures.len))

use Rattle.x509_der.specs.facts.OidContent.{arcs_counted}
use Rattle.x509_der.proofs.oid.ObjectIdentifier.len.Goals as goal

pub returns-clause-len : goal.returns-clause-len
returns-clause-len g c = rw (c.arcs_len.ensures, c.bytes_of.ensures, ← c.self.view_is) (arcs_counted _ _ c.self.invariant)

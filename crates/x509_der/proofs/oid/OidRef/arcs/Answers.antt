use Rattle.x509_der.specs.facts.OidContent.{oid_begins}
use Rattle.x509_der.proofs.oid.OidRef.arcs.Goals as goal

pub arcs_of-requires : goal.arcs_of-requires
arcs_of-requires c = oid_begins _ _ c.self.invariant

use Rattle.x509_oid_names.proofs.Arcs.{named}
use Rattle.x509_oid_names.proofs.name.name_of.Goals as goal

pub returns : goal.returns
returns c = named c.args.arcs.now c.in_ok-last.front.now c.in_ok-last.last.now _ c.in_ok-last.ensures.cases.0 c.name_by.ensures

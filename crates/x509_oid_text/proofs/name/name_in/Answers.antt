use Rattle.x509_oid_text.proofs.Names.{named, too_many}
use Rattle.x509_oid_text.proofs.name.name_in.Goals as goal

pub returns-in_default : goal.returns-in_default
returns-in_default c = too_many c.args.content.now c.in_ok-arcs.arcs c.in_ok-arcs.ensures c.in_default.ensures

pub returns : goal.returns
returns c = named c.args.content.now c.in_ok-arcs.arcs _ _ c.in_ok-arcs.ensures c.in-Some.ensures.2 c.name_of.ensures

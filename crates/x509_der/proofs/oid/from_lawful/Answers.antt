use Rattle.std.proofs.Common.{ap, ◌∙◌}
use Rattle.x509_der.specs.ObjectIdentifier.{arcs_spelled}
use Rattle.x509_der.specs.facts.OidContent.{content_is, content_spells}
use Rattle.x509_der.proofs.oid.from_lawful.Goals as goal

pub invariant_of-result : goal.invariant_of-result
invariant_of-result g c = rw c.in_ok-held.ensures.ok (content_is c.args.arcs.now c.requires)

pub returns-clause-ok : goal.returns-clause-ok
returns-clause-ok g c = ap arcs_spelled c.in_ok-held.ensures.ok ∙ content_spells c.args.arcs.now c.requires

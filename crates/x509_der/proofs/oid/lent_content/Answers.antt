use Rattle.x509_der_parts.specs.reads.PrimitiveContent.{plain_accepts}
use Rattle.x509_der.specs.ObjectIdentifier.{IsOid, oid_content, IsLawful, arcs_spelled}
use Rattle.x509_der.specs.facts.ObjectIdentifier.{oid_plain}
use Rattle.x509_der.proofs.oid.lent_content.Goals as goal

pub returns-clause-ok : goal.returns-clause-ok
returns-clause-ok g c = plain_accepts IsOid oid_content IsLawful (Unit {0}) oid_plain c.args.reader.now c.pass_rest.new.self c.rest-content.result.now (arcs_spelled c.rest-content.result.now) c.requires c.rest-content.ensures.all c.pass_rest.ensures c.in_ok-check.ensures.ok

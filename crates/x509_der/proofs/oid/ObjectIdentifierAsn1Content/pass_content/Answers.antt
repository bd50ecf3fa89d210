use Rattle.x509_der_parts.specs.reads.PrimitiveContent.{plain_accepts}
use Rattle.x509_der_parts.specs.reads.Passing.{read_passes}
use Rattle.x509_der.specs.ObjectIdentifier.{IsOid, oid_content, IsLawful, arcs_spelled, oids}
use Rattle.x509_der.specs.facts.ObjectIdentifier.{oid_plain}
use Rattle.x509_der.proofs.oid.ObjectIdentifierAsn1Content.pass_content.Goals as goal

pub returns : goal.returns
returns g c = read_passes oids (λ v. tt) c.args.reader.now c.pass_rest.new.self (arcs_spelled c.rest.result.now) (plain_accepts IsOid oid_content IsLawful ⊥ oid_plain c.args.reader.now c.pass_rest.new.self c.rest.result.now _ c.requires.ready c.rest.ensures.all c.pass_rest.ensures c.in_ok-check.ensures.ok)

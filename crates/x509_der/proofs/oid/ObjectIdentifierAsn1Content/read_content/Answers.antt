use Rattle.x509_der_parts.specs.reads.PrimitiveContent.{plain_accepts}
use Rattle.x509_der.specs.ObjectIdentifier.{IsOid, oid_content, IsLawful}
use Rattle.x509_der.specs.facts.ObjectIdentifier.{oid_plain}
use Rattle.x509_der.proofs.oid.ObjectIdentifierAsn1Content.read_content.Goals as goal

pub returns : goal.returns
returns g c = plain_accepts IsOid oid_content IsLawful ⊥ oid_plain c.args.reader.now c.pass_rest.new.self c.rest-bytes.result.now _ c.requires.ready c.rest-bytes.ensures.all c.pass_rest.ensures (rw c.in_ok-held.ensures.ok c.in_ok-check.ensures.ok)

use Rattle.x509_der_parts.specs.PrimitiveContent.{octets}
use Rattle.x509_der_parts.specs.reads.PrimitiveContent.{itself_accepts}
use Rattle.x509_der_parts.specs.reads.Passing.{read_passes}
use Rattle.x509_der.proofs.octet_string.OctetStringAsn1Content.pass_content.Goals as goal

pub returns : goal.returns
returns g c = read_passes octets (λ v. tt) c.args.reader.now c.pass_rest.new.self c.args.reader.now.rest (itself_accepts (λ v. Unit {0}) c.args.reader.now c.pass_rest.new.self c.rest-bytes.result.now _ c.requires.ready c.rest-bytes.ensures.bytes c.rest-bytes.ensures.all c.pass_rest.ensures c.rest-bytes.ensures.all tt)

use Rattle.x509_der_parts.specs.Boolean.{IsTruth, boolean_content}
use Rattle.x509_der_parts.specs.laws.Boolean.{boolean_plain}
use Rattle.x509_der_parts.specs.reads.PrimitiveContent.{plain_accepts}
use Rattle.x509_der_parts.proofs.boolean.BoolContent.read_content.Goals as goal

pub returns : goal.returns
returns g c = plain_accepts IsTruth boolean_content (λ v. Unit {0}) (Unit {0}) boolean_plain c.args.reader.now c.pass_rest.new.self c.rest.result.now c.in-Some.value c.requires.ready c.rest.ensures.all c.pass_rest.ensures c.in-Some.ensures.some

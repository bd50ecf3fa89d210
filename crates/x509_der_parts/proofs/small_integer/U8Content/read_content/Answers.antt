use Rattle.std.proofs.Common.{◌<◌}
use Rattle.x509_der_parts.specs.SmallInteger.{IsSmall, small_integer_content}
use Rattle.x509_der_parts.specs.laws.SmallInteger.{small_integer_plain}
use Rattle.x509_der_parts.specs.reads.PrimitiveContent.{plain_accepts}
use Rattle.x509_der_parts.proofs.small_integer.U8Content.read_content.Goals as goal

pub returns : goal.returns
returns g c = plain_accepts IsSmall small_integer_content (λ v. v < 256) (Unit {0}) small_integer_plain c.args.reader.now c.pass_rest.new.self c.rest.result.now c.in-Some.value c.requires.ready c.rest.ensures.all c.pass_rest.ensures c.in-Some.ensures.some

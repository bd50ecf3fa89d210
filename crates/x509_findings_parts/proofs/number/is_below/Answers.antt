use Rattle.std.proofs.Common.{◌^◌, arith}
use Rattle.x509_der.specs.Integer.{signed_value}
use Rattle.x509_findings_parts.proofs.NumberFacts.{below_some, below_none}
use Rattle.x509_findings_parts.proofs.number.is_below.Goals as goal

pub returns-in-Some : goal.returns-in-Some
returns-in-Some g c = below_some (signed_value c.args.number.now) c.in-Some.value c.args.bound c.in-Some.ensures.some

pub returns-in-None : goal.returns-in-None
returns-in-None g c = below_none (signed_value c.args.number.now) c.is_negative.result c.args.bound (2 ^ 64) (omega arith) c.is_negative.ensures.below c.in-None.ensures.none

use Rattle.std.proofs.Common.{Some, None}
use Rattle.x509_flat_values.proofs.Checking.{checked}
use Rattle.x509_flat_values.proofs.further.check_extension.Goals as goal

pub returns-in_default : goal.returns-in_default
returns-in_default g c = record {
  known = λ arcs h. absurd (c.in_default.ensures arcs h);
  bad = λ _. (c.unknown.ensures.status, c.unknown.ensures.verdict);
}

pub returns-in-Some-kind_of : goal.returns-in-Some-kind_of
returns-in-Some-kind_of g c = checked _ c.args.identifier.now c.args.octets.now c.in-Some.identifier (Some c.in-Some-kind_of.kind) _ _ c.in-Some.ensures c.in-Some-kind_of.ensures c.check_further.ensures

pub returns-in-None : goal.returns-in-None
returns-in-None g c = checked _ c.args.identifier.now c.args.octets.now c.in-Some.identifier None _ _ c.in-Some.ensures c.in-None.ensures (c.unknown-in-None.ensures.status, c.unknown-in-None.ensures.verdict)

use Rattle.std.proofs.Common.{rules}
use Rattle.x509_der_parts.proofs.deviation.Deviations.count.Goals as goal

pub returns : goal.returns
returns c = search (rules)

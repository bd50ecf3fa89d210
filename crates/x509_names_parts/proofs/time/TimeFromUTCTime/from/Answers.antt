use Rattle.std.proofs.Common.{rules}
use Rattle.x509_names_parts.proofs.time.TimeFromUTCTime.from.Goals as goal

pub returns : goal.returns
returns c = search (rules)

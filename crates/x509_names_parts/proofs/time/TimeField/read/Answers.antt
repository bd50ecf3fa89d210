use Rattle.std.proofs.Common.{rules}
use Rattle.x509_names_parts.proofs.time.TimeField.read.Goals as goal

pub returns : goal.returns
returns g c = search (rules)

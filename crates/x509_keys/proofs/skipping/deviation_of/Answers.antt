use Rattle.std.proofs.Common.{rules}
use Rattle.x509_keys.proofs.skipping.deviation_of.Goals as goal

pub returns-in-Some : goal.returns-in-Some
returns-in-Some c = search (rules)

use Rattle.std.proofs.Common.{rules}
use Rattle.x509_keys.proofs.skipping.deviation_of_held.Goals as goal

pub returns-in-Some : goal.returns-in-Some
returns-in-Some g c = search (rules)

use Rattle.std.proofs.Common.{rules}
use Rattle.x509_keys_parts.proofs.raw_algorithm_identifier.absence.Goals as goal

pub returns-in-None : goal.returns-in-None
returns-in-None g c = search (rules)

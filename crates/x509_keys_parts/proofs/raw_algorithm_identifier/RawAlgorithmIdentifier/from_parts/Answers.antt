use Rattle.std.proofs.Common.{rules}
use Rattle.x509_keys_parts.proofs.raw_algorithm_identifier.RawAlgorithmIdentifier.from_parts.Goals as goal

pub returns : goal.returns
returns g c = search (rules)

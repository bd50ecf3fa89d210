use Rattle.std.proofs.Common.{rules}
use Rattle.x509_keys_parts.proofs.raw_algorithm_identifier.RawAlgorithmIdentifier.parameters.Goals as goal

pub returns-clause-parameters : goal.returns-clause-parameters
returns-clause-parameters g c = search (rules)

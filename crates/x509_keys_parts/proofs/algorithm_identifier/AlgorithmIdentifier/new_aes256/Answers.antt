use Rattle.std.proofs.Common.{rules}
use Rattle.x509_keys_parts.proofs.algorithm_identifier.AlgorithmIdentifier.new_aes256.Goals as goal

pub returns : goal.returns
returns g c = search (rules)

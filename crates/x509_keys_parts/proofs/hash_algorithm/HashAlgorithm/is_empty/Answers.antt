use Rattle.std.proofs.Common.{rules}
use Rattle.x509_keys_parts.proofs.hash_algorithm.HashAlgorithm.is_empty.Goals as goal

pub returns : goal.returns
returns c = search (rules)

use Rattle.std.proofs.Common.{rules}
use Rattle.x509_keys_parts.proofs.hash_algorithm.HashAlgorithm.len.Goals as goal

pub returns-in-SHA384 : goal.returns-in-SHA384
returns-in-SHA384 c = search (rules)

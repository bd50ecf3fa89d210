use Rattle.std.proofs.Common.{rules}
use Rattle.x509_keys_parts.proofs.algorithm_parameters.if_aes.Goals as goal

pub returns-in-None : goal.returns-in-None
returns-in-None g c = search (rules)

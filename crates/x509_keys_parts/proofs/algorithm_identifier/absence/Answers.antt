use Rattle.std.proofs.Common.{rules}
use Rattle.x509_keys_parts.proofs.algorithm_identifier.absence.Goals as goal

pub returns-then-left_out : goal.returns-then-left_out
returns-then-left_out c = search (rules)

use Rattle.std.proofs.Common.{rules}
use Rattle.x509_der.specs.ObjectIdentifier.{numbers_from}
use Rattle.x509_keys_parts.proofs.key_kind.key_kind.Goals as goal

pub returns-then-is_ed_algorithm : goal.returns-then-is_ed_algorithm
unfolding numbers_from
returns-then-is_ed_algorithm c = search (rules)

pub returns-else-is_mldsa_algorithm : goal.returns-else-is_mldsa_algorithm
unfolding numbers_from
returns-else-is_mldsa_algorithm c = search (rules)

use Rattle.std.proofs.Common.{rules}
use Rattle.x509_der.specs.ObjectIdentifier.{numbers_from}
use Rattle.x509_keys_parts.proofs.algorithm_parameters.kind_of.Goals as goal

pub returns-then-is_arcs : goal.returns-then-is_arcs
unfolding numbers_from
returns-then-is_arcs c = search (rules)

use Rattle.std.proofs.Common.{sym, ◌∙◌}
use Rattle.std.proofs.lemmas.Bool.{and_right}
use Rattle.x509_keys_parts.proofs.algorithm_identifier.lacks_null.Goals as goal

pub returns-else-are_absent : goal.returns-else-are_absent
returns-else-are_absent g c = c.if-are_absent.false ∙ sym (and_right _ _ (sym c.are_absent.ensures ∙ c.if-are_absent.false))

use Rattle.std.proofs.Common.{rules}
use Rattle.x509_outline.proofs.tbs_certificate_outline.has_ids.Goals as goal

pub returns-then-is_left_out : goal.returns-then-is_left_out
returns-then-is_left_out g c = search (rules)

pub returns-else-is_left_out : goal.returns-else-is_left_out
returns-else-is_left_out g c = search (rules)

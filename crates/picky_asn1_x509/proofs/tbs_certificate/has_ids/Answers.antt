use Rattle.std.proofs.Common.{rules}
use Rattle.picky_asn1_x509.proofs.tbs_certificate.has_ids.Goals as goal

pub returns-then-is_left_out : goal.returns-then-is_left_out
returns-then-is_left_out g c = search (rules)

pub returns-else-is_left_out : goal.returns-else-is_left_out
returns-else-is_left_out g c = search (rules)

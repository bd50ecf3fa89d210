use Rattle.std.proofs.Common.{rules}
use Rattle.x509_keys_parts.proofs.rsassa_pss.salt_in.Goals as goal

pub returns-then-is_negative : goal.returns-then-is_negative
returns-then-is_negative g c = search (rules)

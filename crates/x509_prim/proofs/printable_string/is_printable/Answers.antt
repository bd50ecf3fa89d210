use Rattle.std.proofs.Common.{rules}
use Rattle.x509_prim.proofs.printable_string.is_printable.Goals as goal

pub returns-else-is_ascii_alphanumeric : goal.returns-else-is_ascii_alphanumeric
returns-else-is_ascii_alphanumeric c = search (rules)

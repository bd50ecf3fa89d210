use Rattle.std.proofs.Common.{rules}
use Rattle.x509_names_parts.proofs.version.Version.from_u8.Goals as goal

pub returns-in-2 : goal.returns-in-2
returns-in-2 c = search (rules)

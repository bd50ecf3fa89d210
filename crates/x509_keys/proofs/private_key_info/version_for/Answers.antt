use Rattle.std.proofs.Common.{rules}
use Rattle.x509_keys.proofs.private_key_info.version_for.Goals as goal

pub returns-in-Some : goal.returns-in-Some
returns-in-Some g c = search (rules)

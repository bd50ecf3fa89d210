use Rattle.std.proofs.Common.{rules}
use Rattle.x509_keys.proofs.private_key_info.inner_curve.Goals as goal

pub returns : goal.returns
returns g c = search (rules)

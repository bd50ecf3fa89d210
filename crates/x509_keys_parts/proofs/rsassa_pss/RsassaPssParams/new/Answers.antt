use Rattle.std.proofs.Common.{rules}
use Rattle.x509_keys_parts.proofs.rsassa_pss.RsassaPssParams.new.Goals as goal

pub returns : goal.returns
returns g c = search (rules)

use Rattle.std.proofs.Common.{rules}
use Rattle.picky_asn1_x509_parts.proofs.extended_key_usage.is_purpose.Goals as goal

pub returns : goal.returns
returns g c = search (rules)

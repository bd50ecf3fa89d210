use Rattle.std.proofs.Common.{rules}
use Rattle.picky_asn1_x509_parts.proofs.extension.Extension.into_non_critical.Goals as goal

pub returns : goal.returns
returns g c = search (rules)

use Rattle.std.proofs.Common.{rules}
use Rattle.picky_asn1_x509_parts.proofs.key_usage.KeyUsage.key_cert_sign.Goals as goal

pub returns : goal.returns
returns g c = search (rules)

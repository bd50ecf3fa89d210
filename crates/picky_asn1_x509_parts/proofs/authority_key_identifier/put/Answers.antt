use Rattle.std.proofs.Common.{rules}
use Rattle.picky_asn1_x509_parts.proofs.authority_key_identifier.put.Goals as goal

pub returns : goal.returns
returns g c = search (rules)

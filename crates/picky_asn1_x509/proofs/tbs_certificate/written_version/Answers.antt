use Rattle.std.proofs.Common.{rules}
use Rattle.picky_asn1_x509.proofs.tbs_certificate.written_version.Goals as goal

pub returns-in-V1 : goal.returns-in-V1
returns-in-V1 c = search (rules)

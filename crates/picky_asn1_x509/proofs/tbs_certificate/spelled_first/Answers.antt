use Rattle.std.proofs.Common.{rules}
use Rattle.picky_asn1_x509.proofs.tbs_certificate.spelled_first.Goals as goal

pub returns-in-Some-V1 : goal.returns-in-Some-V1
returns-in-Some-V1 c = search (rules)

use Rattle.std.proofs.Common.{rules}
use Rattle.x509_outline.proofs.tbs_certificate_outline.spelled_first.Goals as goal

pub returns-in-Some-V1 : goal.returns-in-Some-V1
returns-in-Some-V1 c = search (rules)

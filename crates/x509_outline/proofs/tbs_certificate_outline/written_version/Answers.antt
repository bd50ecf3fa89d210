use Rattle.std.proofs.Common.{rules}
use Rattle.x509_outline.proofs.tbs_certificate_outline.written_version.Goals as goal

pub returns-in-V1 : goal.returns-in-V1
returns-in-V1 c = search (rules)

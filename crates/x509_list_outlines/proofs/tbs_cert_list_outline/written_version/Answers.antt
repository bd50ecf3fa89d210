use Rattle.std.proofs.Common.{rules}
use Rattle.x509_list_outlines.proofs.tbs_cert_list_outline.written_version.Goals as goal

pub returns-in-V1 : goal.returns-in-V1
returns-in-V1 c = search (rules)

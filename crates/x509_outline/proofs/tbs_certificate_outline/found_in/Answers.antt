use Rattle.std.proofs.Common.{rules}
use Rattle.x509_outline.proofs.tbs_certificate_outline.found_in.Goals as goal

pub returns : goal.returns
returns g c = search (rules)

use Rattle.std.proofs.Common.{rules}
use Rattle.picky_asn1_x509.proofs.certification_request.CertificationRequestInfo.with_attribute.Goals as goal

pub returns-in-Ok-clause-ok : goal.returns-in-Ok-clause-ok
returns-in-Ok-clause-ok g c = search (rules)

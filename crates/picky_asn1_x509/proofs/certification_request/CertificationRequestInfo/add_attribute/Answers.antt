use Rattle.std.proofs.Common.{rules}
use Rattle.picky_asn1_x509.proofs.certification_request.CertificationRequestInfo.add_attribute.Goals as goal

pub returns-clause-ok : goal.returns-clause-ok
returns-clause-ok g c = search (rules)

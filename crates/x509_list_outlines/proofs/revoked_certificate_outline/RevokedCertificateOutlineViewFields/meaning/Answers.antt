use Rattle.std.proofs.Common.{rules}
use Rattle.x509_list_outlines.proofs.revoked_certificate_outline.RevokedCertificateOutlineViewFields.meaning.Goals as goal

pub returns-clause-meaning : goal.returns-clause-meaning
returns-clause-meaning g c = search (rules)

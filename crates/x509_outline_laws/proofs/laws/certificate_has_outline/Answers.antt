use Rattle.x509_outline_laws.proofs.SignedParts.{has_outline}
use Rattle.x509_outline_laws.proofs.laws.certificate_has_outline.Goals as goal

pub returns : goal.returns
returns g c = has_outline

use Rattle.x509_der.specs.ObjectIdentifier.{numbers_from}
use Rattle.x509_signature_algorithms.proofs.parameters.has_null.Goals as goal

pub returns : goal.returns
unfolding numbers_from
returns g c = c.is_among.ensures

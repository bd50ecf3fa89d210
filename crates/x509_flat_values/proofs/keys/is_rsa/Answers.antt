use Rattle.x509_der.specs.ObjectIdentifier.{numbers_from}
use Rattle.x509_flat_values.proofs.keys.is_rsa.Goals as goal

pub returns : goal.returns
unfolding numbers_from
returns c = c.is_identifier.ensures

use Rattle.x509_der.specs.ObjectIdentifier.{numbers_from}
use Rattle.x509_keys_parts.proofs.key_kind.is_mldsa_algorithm.Goals as goal

pub returns : goal.returns
unfolding numbers_from
returns c = c.is_among.ensures

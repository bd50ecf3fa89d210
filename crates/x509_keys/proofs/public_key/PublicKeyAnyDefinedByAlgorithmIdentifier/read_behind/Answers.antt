use Rattle.std.proofs.Common.{rules}
use Rattle.x509_keys.proofs.public_key.PublicKeyAnyDefinedByAlgorithmIdentifier.read_behind.Goals as goal

pub returns : goal.returns
returns g c = search (rules)

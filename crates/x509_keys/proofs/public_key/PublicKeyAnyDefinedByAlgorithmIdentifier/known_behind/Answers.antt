use Rattle.x509_keys_parts.specs.KeyKinds.{key_kind}
use Rattle.x509_keys.specs.facts.PublicKeys.{public_valid}
use Rattle.x509_keys.proofs.public_key.PublicKeyAnyDefinedByAlgorithmIdentifier.known_behind.Goals as goal

pub returns : goal.returns
returns g c = public_valid (key_kind c.args._key.now.algorithm) c.args.self.now c.known_key.ensures

use Rattle.x509_keys_parts.specs.KeyKinds.{key_kind}
use Rattle.x509_keys.specs.facts.PrivateKeyValues.{private_valid}
use Rattle.x509_keys.proofs.private_key_value.PrivateKeyValueAnyDefinedByAlgorithmIdentifier.known_behind.Goals as goal

pub returns : goal.returns
returns g c = private_valid (key_kind c.args._key.now.algorithm) c.args.self.now c.known_key.ensures

use Rattle.x509_keys_parts.specs.AlgorithmKinds.{kind_of}
use Rattle.x509_keys_parts.specs.facts.AlgorithmParameters.{parameters_valid}
use Rattle.x509_keys_parts.proofs.algorithm_parameters.AlgorithmIdentifierParametersAnyDefinedByObjectIdentifierAsn1.known_behind.Goals as goal

pub returns : goal.returns
returns g c = parameters_valid (kind_of c.args._key.now) c.args.self.now c.known_parameters.ensures

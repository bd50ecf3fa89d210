use Rattle.std.proofs.Common.{ap}
use Rattle.x509_keys_parts.specs.declared.algorithm_parameters.Chosen.{Chosen}
use Rattle.x509_keys_parts.proofs.algorithm_parameters.AlgorithmIdentifierParametersAnyDefinedByObjectIdentifierAsn1.pass_behind.Goals as goal

pub returns : goal.returns
returns g c = λ k e. rw (ap (λ (x : Chosen). x.parameters) e) c.pass_as.ensures

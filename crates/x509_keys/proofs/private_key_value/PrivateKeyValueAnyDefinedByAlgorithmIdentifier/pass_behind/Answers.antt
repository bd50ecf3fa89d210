use Rattle.x509_keys.proofs.private_key_value.PrivateKeyValueAnyDefinedByAlgorithmIdentifier.pass_behind.Goals as goal

pub returns : goal.returns
returns g c = λ k e. rw e c.pass_as.ensures

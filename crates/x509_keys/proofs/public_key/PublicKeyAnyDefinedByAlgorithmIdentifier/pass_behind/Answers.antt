use Rattle.x509_keys.proofs.public_key.PublicKeyAnyDefinedByAlgorithmIdentifier.pass_behind.Goals as goal

pub returns : goal.returns
returns g c = λ k e. rw e c.pass_as.ensures

use Rattle.x509_names.proofs.attribute_value.AttributeTypeAndValueParametersAnyDefinedByObjectIdentifierAsn1.pass_behind.Goals as goal

pub returns : goal.returns
returns g c = λ k e. rw e c.pass_as.ensures

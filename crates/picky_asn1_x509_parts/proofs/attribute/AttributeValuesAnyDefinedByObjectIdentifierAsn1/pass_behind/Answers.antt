use Rattle.picky_asn1_x509_parts.proofs.attribute.AttributeValuesAnyDefinedByObjectIdentifierAsn1.pass_behind.Goals as goal

pub returns : goal.returns
returns g c = λ k e. rw e c.pass_as.ensures

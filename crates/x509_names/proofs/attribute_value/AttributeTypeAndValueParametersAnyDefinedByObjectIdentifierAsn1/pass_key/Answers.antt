use Rattle.std.proofs.Common.{sym}
use Rattle.x509_names.proofs.attribute_value.AttributeTypeAndValueParametersAnyDefinedByObjectIdentifierAsn1.pass_key.Goals as goal

pub returns : goal.returns
returns g c = record { value = c.in_ok-identifier.identifier; accepts = c.in_ok-identifier.ensures.ok; kept = sym c.kind_of.ensures }

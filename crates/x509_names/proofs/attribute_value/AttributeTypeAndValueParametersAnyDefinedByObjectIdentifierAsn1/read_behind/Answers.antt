use Rattle.std.proofs.Common.{rules}
use Rattle.x509_names.proofs.attribute_value.AttributeTypeAndValueParametersAnyDefinedByObjectIdentifierAsn1.read_behind.Goals as goal

-- it is found without a file too; with one, a wrong body is refused sooner
pub returns : goal.returns
returns g c = search rules

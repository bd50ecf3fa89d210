use Rattle.std.proofs.Common.{sym}
use Rattle.picky_asn1_x509_parts.proofs.attribute.AttributeValuesAnyDefinedByObjectIdentifierAsn1.pass_key.Goals as goal

pub returns : goal.returns
returns g c = record { value = c.in_ok-identifier.identifier; accepts = c.in_ok-identifier.ensures.ok; kept = sym c.kind_of.ensures }

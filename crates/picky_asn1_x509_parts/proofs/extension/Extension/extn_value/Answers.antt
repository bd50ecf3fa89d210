use Rattle.std.proofs.Common.{rules}
use Rattle.picky_asn1_x509_parts.proofs.extension.Extension.extn_value.Goals as goal

pub returns-in-IssuerAltName-clause-value : goal.returns-in-IssuerAltName-clause-value
returns-in-IssuerAltName-clause-value g c = search (rules)

pub returns-in-IssuerAltName-clause-kind : goal.returns-in-IssuerAltName-clause-kind
returns-in-IssuerAltName-clause-kind g c = search (rules)

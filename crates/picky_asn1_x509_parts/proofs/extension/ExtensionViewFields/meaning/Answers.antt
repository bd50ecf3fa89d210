use Rattle.std.proofs.Common.{rules}
use Rattle.picky_asn1_x509_parts.proofs.extension.ExtensionViewFields.meaning.Goals as goal

pub returns-clause-meaning : goal.returns-clause-meaning
returns-clause-meaning g c = search (rules)

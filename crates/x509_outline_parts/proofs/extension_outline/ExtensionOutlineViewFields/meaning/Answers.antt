use Rattle.std.proofs.Common.{rules}
use Rattle.x509_outline_parts.proofs.extension_outline.ExtensionOutlineViewFields.meaning.Goals as goal

pub returns-clause-meaning : goal.returns-clause-meaning
returns-clause-meaning g c = search (rules)

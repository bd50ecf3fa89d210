use Rattle.std.proofs.Common.{rules}
use Rattle.x509_names_parts.proofs.validity.ValidityStructureInner.from_fields.Goals as goal

pub returns : goal.returns
returns c = search (rules)

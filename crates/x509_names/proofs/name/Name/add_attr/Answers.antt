use Rattle.std.proofs.Common.{rules}
use Rattle.x509_names.proofs.name.Name.add_attr.Goals as goal

-- it is found without a file too; with one, a wrong body is refused sooner
pub returns-clause-ok : goal.returns-clause-ok
returns-clause-ok g c = search rules

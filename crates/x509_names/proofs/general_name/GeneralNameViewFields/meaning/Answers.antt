use Rattle.std.proofs.Common.{rules}
use Rattle.x509_names.proofs.general_name.GeneralNameViewFields.meaning.Goals as goal

pub returns-in-Second : goal.returns-in-Second
returns-in-Second g c = search (rules)

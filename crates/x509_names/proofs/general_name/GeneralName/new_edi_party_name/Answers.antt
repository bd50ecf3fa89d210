use Rattle.std.proofs.Common.{rules}
use Rattle.x509_names.proofs.general_name.GeneralName.new_edi_party_name.Goals as goal

pub returns : goal.returns
returns g c = search (rules)

use Rattle.std.proofs.Common.{refl}
use Rattle.x509_values.proofs.TellingGeneralNames.{name_told}
use Rattle.x509_values.proofs.general_names.placed.Goals as goal

pub returns : goal.returns
returns g c = λ v n slice string whole h bytes place. name_told string whole v n slice c.args.name _ h bytes place refl c.span.ensures

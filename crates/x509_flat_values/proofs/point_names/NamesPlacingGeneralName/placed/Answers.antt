use Rattle.std.proofs.Common.{refl}
use Rattle.x509_values.proofs.TellingGeneralNames.{name_told}
use Rattle.x509_flat_values.proofs.point_names.NamesPlacingGeneralName.placed.Goals as goal

pub returns : goal.returns
returns g c = λ v n slice string whole h bytes place. name_told string whole v n slice c.args.item _ h bytes place refl c.span.ensures

use Rattle.x509_values.proofs.TellingPurposes.{purpose_told}
use Rattle.x509_values.proofs.purposes.placed.Goals as goal

pub returns : goal.returns
returns c = λ v n slice string whole h bytes place. purpose_told string whole v n slice c.args.identifier _ h bytes place c.span.ensures

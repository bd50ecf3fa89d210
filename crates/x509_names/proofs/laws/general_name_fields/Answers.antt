use Rattle.x509_names.specs.facts.GeneralNameFields.{alternative_at}
use Rattle.x509_names.proofs.laws.general_name_fields.Goals as goal

pub returns : goal.returns
returns g c = λ v string y a. alternative_at c.spellings_are_lawful.ensures.lawful v string y a (c.fields.ensures v string y a).parts

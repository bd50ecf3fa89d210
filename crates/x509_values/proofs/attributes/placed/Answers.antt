use Rattle.std.proofs.Common.{refl}
use Rattle.x509_values.proofs.TellingNames.{attribute_told}
use Rattle.x509_values.proofs.attributes.placed.Goals as goal

pub returns : goal.returns
returns g c = λ v n t slice string whole h bytes place.
    attribute_told c.spellings_are_lawful.ensures.element c.args.set string whole v n t slice c.args.fields c.take-identifier.new.self c.take-value.new.self c.take-identifier.result c.take-value.result _ h bytes place c.take-identifier.ensures c.take-value.ensures refl c.span.ensures refl c.span-2.ensures

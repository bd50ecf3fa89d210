use Rattle.std.proofs.Common.{refl}
use Rattle.x509_flat_values.proofs.Sequences.{access_told}
use Rattle.x509_flat_values.proofs.accesses.AccessesPlacingAccessDescription.placed.Goals as goal

pub returns : goal.returns
returns g c = λ v n slice string whole h bytes place.
    access_told c.spellings_are_lawful.ensures.element string whole v n slice c.args.item c.take-method.new.self c.take-location.new.self c.take-method.result c.take-location.result _ h bytes place c.take-method.ensures c.take-location.ensures c.span.ensures refl c.span-2.ensures

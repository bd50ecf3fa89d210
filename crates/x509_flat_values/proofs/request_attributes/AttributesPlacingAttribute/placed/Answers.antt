use Rattle.std.proofs.Common.{refl}
use Rattle.x509_flat_values.proofs.RequestAttributes.{attribute_told}
use Rattle.x509_flat_values.proofs.request_attributes.AttributesPlacingAttribute.placed.Goals as goal

pub returns : goal.returns
returns g c = λ v n slice string whole h bytes place.
    attribute_told string whole v n slice c.args.item c.take-identifier.new.self c.take-values.new.self c.take-identifier.result c.take-values.result _ h bytes place c.take-identifier.ensures c.take-values.ensures c.span.ensures refl c.span-2.ensures

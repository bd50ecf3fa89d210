use Rattle.x509_fields.specs.facts.Slices.{field_slice}
use Rattle.x509_callers.proofs.places.subject_bytes.Goals as goal

pub returns : goal.returns
returns g c = λ y a. field_slice _ _ _ _ _ _ (c.of-places.ensures y a).fields.fields.subject c.slice.ensures

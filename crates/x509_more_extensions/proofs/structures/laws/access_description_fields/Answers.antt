-- The law of fields of AccessDescription, written by tools/structures.py from declarations.asn1.
use Rattle.x509_der.specs.facts.ElementPlaces.{content_first}
use Rattle.x509_more_extensions.proofs.structures.laws.access_description_fields.Goals as goal

pub returns : goal.returns
returns g c = λ v string y a.
    let s = content_first 48 _ _ string y (c.fields.ensures v string y a).parts in
    let j0 = s.inner.parts in
    record { content = s.content; bytes = s.bytes; access_method_bytes = j0.front; access_location_bytes = j0.back; access_method_first = j0.bytes; access_method_at = j0.first; access_location_at = j0.second }

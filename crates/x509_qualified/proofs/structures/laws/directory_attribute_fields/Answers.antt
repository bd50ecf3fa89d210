-- The law of fields of DirectoryAttribute, written by tools/structures.py from declarations.asn1.
use Rattle.x509_der.specs.facts.ElementPlaces.{content_first}
use Rattle.x509_qualified.proofs.structures.laws.directory_attribute_fields.Goals as goal

pub returns : goal.returns
returns g c = λ v string y a.
    let s = content_first 48 _ _ string y (c.fields.ensures v string y a).parts in
    let j0 = s.inner.parts in
    record { content = s.content; bytes = s.bytes; attribute_type_bytes = j0.front; values_bytes = j0.back; attribute_type_first = j0.bytes; attribute_type_at = j0.first; values_at = j0.second }

-- The law of fields of GeneralSubtree, written by tools/structures.py from declarations.asn1.
use Rattle.x509_der.specs.facts.ElementPlaces.{content_first}
use Rattle.x509_more_extensions.proofs.structures.laws.general_subtree_fields.Goals as goal

pub returns : goal.returns
returns g c = λ v string y a.
    let s = content_first 48 _ _ string y (c.fields.ensures v string y a).parts in
    let j0 = s.inner.parts in
    let j1 = j0.second.parts in
    record { content = s.content; bytes = s.bytes; base_bytes = j0.front; behind_base = j0.back; base_first = j0.bytes; base_at = j0.first; minimum_bytes = j1.front; maximum_bytes = j1.back; minimum_first = j1.bytes; minimum_at = j1.first.parts; maximum_at = j1.second.parts }

use Rattle.x509_der.specs.facts.ElementPlaces.{content_first}
use Rattle.x509_names_parts.proofs.laws.validity_fields.Goals as goal

pub returns : goal.returns
returns g c = λ v string y a.
    let s = content_first 48 _ _ string y (c.fields.ensures v string y a).parts in
    let j = s.inner.parts in
    record { content = s.content; bytes = s.bytes; before = j.front; after = j.back; times = j.bytes; before_at = j.first; after_at = j.second }

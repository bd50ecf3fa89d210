use Rattle.x509_der.specs.facts.ElementPlaces.{content_first}
use Rattle.x509_outline_parts.proofs.laws.algorithm_outline_fields.Goals as goal

pub returns : goal.returns
returns g c = λ v string y a.
    let s = content_first 48 _ _ string y (c.fields.ensures v string y a).parts in
    let j = s.inner.parts in
    record { content = s.content; bytes = s.bytes; identifiers = j.front; parameters = j.back; fields = j.bytes; algorithm_at = j.first; parameters_at = j.second.parts }

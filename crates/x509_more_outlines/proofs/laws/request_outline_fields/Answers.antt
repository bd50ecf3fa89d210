use Rattle.x509_der.specs.facts.ElementPlaces.{content_first}
use Rattle.x509_more_outlines.proofs.laws.request_outline_fields.Goals as goal

pub returns : goal.returns
returns g c = λ v string y a.
    let s = content_first 48 _ _ string y (c.fields.ensures v string y a).parts in
    let j = s.inner.parts in
    record { content = s.content; bytes = s.bytes; signed = j.front; signatures = j.back; fields = j.bytes; signed_at = j.first; signature_at = j.second }

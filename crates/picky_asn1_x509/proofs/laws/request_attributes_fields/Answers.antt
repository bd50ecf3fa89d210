use Rattle.x509_der.specs.facts.ElementPlaces.{content_first}
use Rattle.picky_asn1_x509.proofs.laws.request_attributes_fields.Goals as goal

pub returns : goal.returns
returns g c = λ list string y a.
    let s = content_first 160 _ _ string y (c.fields.ensures list string y a).parts in
    record { content = s.content; bytes = s.bytes; items_at = s.inner.parts }

use Rattle.x509_der.specs.facts.ElementPlaces.{content_first}
use Rattle.picky_asn1_x509_parts.proofs.laws.extended_key_usage_fields.Goals as goal

pub returns : goal.returns
returns g c = λ list string y a.
    let s = content_first 48 _ _ string y (c.fields.ensures list string y a).parts in
    record { content = s.content; sequence = s.bytes; purposes = s.inner.parts }

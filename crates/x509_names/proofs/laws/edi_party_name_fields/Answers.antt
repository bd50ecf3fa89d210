use Rattle.x509_der.specs.facts.ElementPlaces.{content_first}
use Rattle.x509_names.proofs.laws.edi_party_name_fields.Goals as goal

pub returns : goal.returns
returns g c = λ v string y a.
    let s = content_first 48 _ _ string y (c.fields.ensures v string y a).parts in
    let j = s.inner.parts in
    record { content = s.content; bytes = s.bytes; fields_at = record { assigners = j.front; parties = j.back; fields = j.bytes; assigner_at = j.first.parts; party_at = j.second } }

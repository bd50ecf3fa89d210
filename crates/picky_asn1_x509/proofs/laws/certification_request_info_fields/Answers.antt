use Rattle.x509_der.specs.facts.ElementPlaces.{content_first}
use Rattle.picky_asn1_x509.proofs.laws.certification_request_info_fields.Goals as goal

pub returns : goal.returns
returns g c = λ v string y a.
    let s = content_first 48 _ _ string y (c.fields.ensures v string y a).parts in
    record { content = s.content; bytes = s.bytes; fields = s.inner }

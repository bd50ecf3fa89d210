use Rattle.x509_der.specs.facts.ElementPlaces.{content_first}
use Rattle.picky_asn1_x509_parts.proofs.laws.basic_constraints_fields.Goals as goal

pub returns : goal.returns
returns g c = λ v string y a.
    let s = content_first 48 _ _ string y (c.fields.ensures v string y a).parts in
    let j = s.inner.parts in
    record {
      content = s.content;
      sequence = s.bytes;
      truths = j.front;
      numbers = j.back;
      fields = j.bytes;
      ca_at = j.first.parts;
      pathlen_at = j.second.parts;
    }

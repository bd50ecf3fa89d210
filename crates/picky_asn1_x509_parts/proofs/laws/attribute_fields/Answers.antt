use Rattle.x509_der.specs.facts.ElementPlaces.{content_first}
use Rattle.picky_asn1_x509_parts.specs.Attribute.{attribute_inner, attribute_parts}
use Rattle.picky_asn1_x509_parts.proofs.laws.attribute_fields.Goals as goal

pub returns : goal.returns
returns g c = λ v string y a.
    let s = content_first 48 attribute_inner (attribute_parts v) string y (c.fields.ensures v string y a).parts in
    let j = s.inner.parts in
    record {
      content = s.content;
      bytes = s.bytes;
      types = j.front;
      values = j.back;
      fields = j.bytes;
      type_at = j.first.field;
      values_at = j.second;
    }

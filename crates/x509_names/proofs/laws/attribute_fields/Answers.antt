use Rattle.x509_der.specs.facts.ElementPlaces.{content_first}
use Rattle.x509_names.specs.Attributes.{kind_of}
use Rattle.x509_names.specs.facts.AttributeFields.{held_stands}
use Rattle.x509_names.proofs.laws.attribute_fields.Goals as goal

pub returns : goal.returns
returns g c = λ v string y a.
    let s = content_first 48 _ _ string y (c.fields.ensures v string y a).parts in
    let j = s.inner.parts in
    record {
      content = s.content;
      bytes = s.bytes;
      types = j.front;
      values = j.back;
      fields = j.bytes;
      type_at = j.first.field;
      value_at = j.second.field;
      held_at = held_stands (kind_of v.ty) v.value _ _ string y j.second.parts;
    }

use Rattle.std.proofs.Common.{refl, subst}
use Rattle.x509_der.specs.facts.ElementPlaces.{content_first}
use Rattle.picky_asn1_x509_parts.specs.Extensions.{ExtensionFields, ExtensionAt, inner, kind_of}
use Rattle.picky_asn1_x509_parts.specs.facts.ExtensionFacts.{means_one}
use Rattle.picky_asn1_x509_parts.specs.facts.ExtensionOctets.{value_octets}
use Rattle.picky_asn1_x509_parts.proofs.laws.extension_fields.Goals as goal

pub returns : goal.returns
returns g c = λ v string y a.
    let b = (c.fields.ensures v string y a).parts in
    let s = content_first 48 inner b.base string y b.parts in
    let j = s.inner.parts in
    let k = j.first.parts in
    let o = value_octets (kind_of b.base.0.0) b.base.1 j.back j.second.field.tally j.second.field.spelled in
    let P : ExtensionFields _ → Type 0 = λ w. ExtensionAt w string y in
    subst P (means_one b.base v b.kinds b.means).0 (record {
      content = s.content;
      bytes = s.bytes;
      keys = j.front;
      values = j.back;
      fields = j.bytes;
      ids = k.front;
      flags = k.back;
      key_fields = k.bytes;
      spelled = b.base.0.1;
      means = refl;
      id_at = k.first.field;
      critical_at = k.second.parts;
      octets = o.0;
      value_bytes = o.1;
      value_at = j.second;
    })

use Rattle.x509_der.specs.facts.ElementPlaces.{content_first}
use Rattle.picky_asn1_x509_parts.specs.facts.AuthorityKeyIdentifierFacts.{means_one}
use Rattle.picky_asn1_x509_parts.proofs.laws.authority_key_identifier_fields.Goals as goal

pub returns : goal.returns
returns g c = λ v string y a.
    let b = (c.fields.ensures v string y a).parts in
    let s = content_first 48 _ _ string y b.parts in
    record {
      fields = b.base;
      means = (means_one b.base v b.kinds b.means).0;
      content = s.content;
      bytes = s.bytes;
      fields_at = s.inner.parts;
    }

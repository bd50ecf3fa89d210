use Rattle.std.proofs.Common.{◌++◌, ◌+◌, length, ap, ◌∙◌, subst}
use Rattle.x509_der.specs.Element.{header}
use Rattle.x509_der.specs.Optional.{OptionalAt}
use Rattle.x509_der.specs.facts.ElementPlaces.{content_first}
use Rattle.x509_keys_parts.specs.KeyKinds.{key_kind}
use Rattle.x509_keys.specs.KeyPlaces.{InfoAt}
use Rattle.x509_keys.specs.PrivateKeyInfos.{info_inner, skipped, info_public_key}
use Rattle.x509_keys.specs.facts.PrivateKeyInfos.{means_info}
use Rattle.x509_keys.specs.facts.PrivateKeyOctets.{private_octets}
use Rattle.x509_keys.specs.declared.private_key_info.PrivateKeyInfo.{PrivateKeyInfo}
use Rattle.x509_keys.proofs.laws.private_key_fields.Goals as goal

pub returns : goal.returns
returns g c = λ v string y a.
    let b = (c.fields.ensures v string y a).parts in
    let s = content_first 48 info_inner b.base string y b.parts in
    let j = s.inner.parts in
    let k = j.second.parts in
    let f = k.first.parts in
    let l = k.second.parts in
    let o = private_octets (key_kind b.base.1.0.0.algorithm) b.base.1.0.1 f.back f.second.field.tally f.second.field.spelled in
    let P : PrivateKeyInfo _ → Type 0 = λ w. InfoAt w string y in
    subst P (means_info b.base v b.kinds b.means).1.0 (record {
      content = s.content;
      bytes = s.bytes;
      versions = j.front;
      algorithms = f.front;
      keys = f.back;
      others = l.front;
      publics = l.back;
      between = b.base.1.1.0;
      fields = j.bytes ∙ ap (λ x. j.front ++ x) (k.bytes ∙ ap (λ x. x ++ k.back) f.bytes ∙ ap (λ x. (f.front ++ f.back) ++ x) l.bytes);
      version_at = j.first.field;
      algorithm_at = f.first.field;
      octets = o.0;
      key_bytes = o.1;
      key_at = f.second;
      other_at = subst (λ x. OptionalAt skipped b.base.1.1.0 ((header s.content + length j.front) + length x) l.front string y) f.bytes l.first.parts;
      public_at = subst (λ x. OptionalAt info_public_key b.base.1.1.1 (((header s.content + length j.front) + length x) + length l.front) l.back string y) f.bytes l.second.parts;
    })

use Rattle.std.proofs.Common.{subst}
use Rattle.x509_der.specs.laws.View.{some_one}
use Rattle.x509_der.specs.facts.ElementPlaces.{content_first}
use Rattle.x509_keys_parts.specs.HashAlgorithms.{hash_inner, null_kinds}
use Rattle.x509_keys_parts.specs.HashLaws.{HashAt}
use Rattle.x509_keys_parts.specs.declared.hash_algorithm.HashAlgorithm.{HashAlgorithm}
use Rattle.x509_keys_parts.proofs.laws.hash_fields.Goals as goal

pub returns : goal.returns
returns g c = λ v string y a.
    let b = (c.fields.ensures v string y a).parts in
    let s = content_first 48 hash_inner b.base string y b.parts in
    let j = s.inner.parts in
    let P : HashAlgorithm → Type 0 = λ w. HashAt w string y in
    subst P (some_one b.base.0 v (null_kinds b.base.1) b.kinds b.means).0 (record {
      content = s.content;
      bytes = s.bytes;
      names = j.front;
      nulls = j.back;
      fields = j.bytes;
      spelled = b.base.1;
      name_at = j.first.field;
      null_at = j.second.parts;
    })

use Rattle.std.proofs.Common.{refl, subst}
use Rattle.x509_der.specs.facts.ElementPlaces.{content_first}
use Rattle.x509_keys_parts.specs.AlgorithmIdentifier.{Algorithm, inner}
use Rattle.x509_keys_parts.specs.AlgorithmLaws.{FieldsAt}
use Rattle.x509_keys_parts.specs.facts.AlgorithmIdentifier.{means_one}
use Rattle.x509_keys_parts.proofs.laws.algorithm_fields.Goals as goal

pub returns : goal.returns
returns g c = λ v string y a.
    let b = (c.fields.ensures v string y a).parts in
    let s = content_first 48 inner b.base string y b.parts in
    let j = s.inner.parts in
    let P : Algorithm _ → Type 0 = λ w. FieldsAt w string y in
    subst P (means_one b.base v b.kinds b.means).0 (record {
      content = s.content;
      bytes = s.bytes;
      names = j.front;
      values = j.back;
      fields = j.bytes;
      spelled = b.base.1;
      means = refl;
      algorithm_at = j.first.field;
      parameters_at = j.second;
    })

use Rattle.std.proofs.Common.{◌+◌, ◌++◌, length, ap, subst, ◌∙◌}
use Rattle.x509_der.specs.Fields.{Stands}
use Rattle.x509_der.specs.Tagged.{tagged}
use Rattle.x509_der.specs.Element.{header}
use Rattle.x509_der.specs.facts.ElementPlaces.{content_first}
use Rattle.x509_keys_parts.specs.HashAlgorithms.{hash_algorithm}
use Rattle.x509_keys_parts.specs.RsassaPss.{pss_inner, mask_gen}
use Rattle.x509_keys_parts.specs.facts.RsassaPssFacts.{pss_says}
use Rattle.x509_keys_parts.proofs.laws.rsassa_pss_fields.Goals as goal

pub returns : goal.returns
returns g c = λ v string y a.
    let b = (c.fields.ensures v string y a).parts in
    let s = content_first 48 pss_inner b.base string y b.parts in
    let j = s.inner.parts in
    let k = j.second.parts in
    let w = pss_says b.base v b.kinds b.means in
    record {
      content = s.content;
      bytes = s.bytes;
      hashes = j.front;
      masks = k.front;
      salts = k.back;
      fields = j.bytes ∙ ap (λ x. j.front ++ x) k.bytes;
      salt = b.base.1.1;
      kinds = b.kinds;
      means = w.salt;
      hash_at = subst (λ h. Stands (tagged 160 hash_algorithm) h (header s.content) j.front string y) w.hash j.first;
      mask_at = subst (λ m. Stands (tagged 161 mask_gen) m (header s.content + length j.front) k.front string y) w.mask k.first;
      salt_at = k.second;
    }

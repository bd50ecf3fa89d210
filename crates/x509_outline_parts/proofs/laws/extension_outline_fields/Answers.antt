use Rattle.std.proofs.Common.{refl, subst}
use Rattle.x509_der.specs.facts.ElementPlaces.{content_first}
use Rattle.x509_outline_parts.specs.Extensions.{ExtensionAt, extension_inner}
use Rattle.x509_outline_parts.specs.declared.extension_outline.ExtensionOutline.{ExtensionOutline}
use Rattle.x509_outline_parts.specs.facts.Extensions.{means_one}
use Rattle.x509_outline_parts.proofs.laws.extension_outline_fields.Goals as goal

pub returns : goal.returns
returns g c = λ v string y a.
    let b = (c.fields.ensures v string y a).parts in
    let s = content_first 48 extension_inner b.base string y b.parts in
    let P : ExtensionOutline _ → Type 0 = λ w. ExtensionAt w string y in
    subst P (means_one b.base v b.kinds b.means).0 (record { content = s.content; bytes = s.bytes; spelled = b.base.1.0; means = refl; fields = s.inner })

use Rattle.std.proofs.Common.{refl, subst}
use Rattle.x509_der.specs.facts.ElementPlaces.{content_first}
use Rattle.x509_outline.specs.TbsCertificates.{TbsAt, tbs_inner}
use Rattle.x509_outline.specs.facts.TbsCertificates.{means_tbs}
use Rattle.x509_outline.specs.declared.tbs_certificate_outline.TbsCertificateOutline.{TbsCertificateOutline}
use Rattle.x509_outline.proofs.laws.tbs_certificate_outline_fields.Goals as goal

pub returns : goal.returns
returns g c = λ v string y a.
    let b = (c.fields.ensures v string y a).parts in
    let s = content_first 48 tbs_inner b.base string y b.parts in
    let P : TbsCertificateOutline _ → Type 0 = λ w. TbsAt w string y in
    subst P (means_tbs b.base v b.kinds b.means).1.0 (record {
      content = s.content;
      bytes = s.bytes;
      version = b.base.0;
      version_means = refl;
      extensions = b.base.1.1.1.1;
      extensions_mean = refl;
      fields = s.inner;
    })

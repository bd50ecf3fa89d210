use Rattle.std.proofs.Common.{refl, subst}
use Rattle.x509_der.specs.facts.ElementPlaces.{content_first}
use Rattle.x509_list_outlines.specs.TbsCertLists.{TbsListAt, tbs_list_inner}
use Rattle.x509_list_outlines.specs.facts.TbsCertLists.{means_list}
use Rattle.x509_list_outlines.specs.declared.tbs_cert_list_outline.TbsCertListOutline.{TbsCertListOutline}
use Rattle.x509_list_outlines.proofs.laws.tbs_cert_list_outline_fields.Goals as goal

pub returns : goal.returns
returns g c = λ v string y a.
    let b = (c.fields.ensures v string y a).parts in
    let s = content_first 48 tbs_list_inner b.base string y b.parts in
    let P : TbsCertListOutline _ → Type 0 = λ w. TbsListAt w string y in
    subst P (means_list b.base v b.kinds b.means).1.0 (record {
      content = s.content;
      bytes = s.bytes;
      version = b.base.0;
      version_means = refl;
      extensions = b.base.1.1.1.1;
      extensions_mean = refl;
      fields = s.inner;
    })

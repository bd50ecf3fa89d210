use Rattle.std.proofs.Common.{refl, subst}
use Rattle.x509_der.specs.facts.ElementPlaces.{content_first}
use Rattle.x509_list_outlines.specs.Revoked.{RevokedAt, revoked_inner}
use Rattle.x509_list_outlines.specs.facts.Revoked.{means_revoked}
use Rattle.x509_list_outlines.specs.declared.revoked_certificate_outline.RevokedCertificateOutline.{RevokedCertificateOutline}
use Rattle.x509_list_outlines.proofs.laws.revoked_certificate_outline_fields.Goals as goal

pub returns : goal.returns
returns g c = λ v string y a.
    let b = (c.fields.ensures v string y a).parts in
    let s = content_first 48 revoked_inner b.base string y b.parts in
    let P : RevokedCertificateOutline _ → Type 0 = λ w. RevokedAt w string y in
    subst P (means_revoked b.base v b.kinds b.means).0 (record { content = s.content; bytes = s.bytes; extensions = b.base.1.1; extensions_mean = refl; fields = s.inner })

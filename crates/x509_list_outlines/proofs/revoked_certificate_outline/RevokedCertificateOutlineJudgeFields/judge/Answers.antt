use Rattle.std.proofs.Common.{◌≡◌, ap, sym, ◌∙◌, Some, Option, Bool, refl}
use Rattle.x509_der.specs.Items.{no_items}
use Rattle.x509_der.specs.Optional.{brief_if}
use Rattle.x509_der.specs.declared.integer.Magnitude.{Magnitude}
use Rattle.x509_outline.specs.Versions.{gone_kinds}
use Rattle.x509_outline.specs.facts.Versions.{kinds_kept}
use Rattle.x509_list_outlines.specs.Revoked.{revoked_of}
use Rattle.x509_list_outlines.proofs.revoked_certificate_outline.RevokedCertificateOutlineJudgeFields.judge.Goals as goal

pub returns : goal.returns
returns g c = λ f e.
    let k : brief_if no_items f.1.1 ≡ c.args.brief.1.1 = ap (λ (b : Magnitude × (Unit {0} × Option Bool)). b.1.1) e in
    let v = revoked_of f in
    (v, ap (λ ks. Some (v, ks)) (sym (kinds_kept f.1.1) ∙ ap gone_kinds k ∙ sym (c.of.ensures ∙ c.gone_empty.ensures)), refl)

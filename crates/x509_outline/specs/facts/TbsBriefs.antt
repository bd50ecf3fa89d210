-- What is kept of the fields of a certificate says what they mean.
use Rattle.std.proofs.Common.{◌≡◌, Bool, true, false, ◌&&◌, List, ◌++◌, Option, Some, None, refl, sym, ap, ◌∙◌}
use Rattle.x509_der.specs.Types.{Deviation}
use Rattle.x509_der.specs.Items.{no_items}
use Rattle.x509_der.specs.Optional.{brief_if}
use Rattle.x509_names.specs.Types.{Version}
use Rattle.x509_outline.specs.Versions.{version_in, version_kinds, list_kinds, ids_fit, gone_fit, gone_kinds}
use Rattle.x509_outline.specs.TbsCertificates.{TbsFields, EndsBrief, tbs_brief, tbs_of, tbs_means, tbs_fits, is_fitting}
use Rattle.x509_outline.specs.facts.Versions.{kinds_kept, version_kept, fits_kept}

pub fits_is : {A : Type 0} (f : TbsFields A) → tbs_fits (tbs_brief f).0 (tbs_brief f).1.1 ≡ is_fitting (tbs_of f)
fits_is f = ap (λ v. ids_fit (version_in v) (brief_if (λ b. tt {0}) f.1.1.0) (brief_if (λ b. tt {0}) f.1.1.1.0) && gone_fit (version_in v) (brief_if no_items f.1.1.1.1)) (version_kept f.0) ∙ fits_kept (version_in f.0) f.1.1.0 f.1.1.1.0 f.1.1.1.1

pub tbs_judged : {A : Type 0} (f : TbsFields A) (b : Option Version × (Unit {0} × EndsBrief)) (ks : List Deviation) → tbs_brief f ≡ b → tbs_fits b.0 b.1.1 ≡ true → ks ≡ version_kinds b.0 ++ gone_kinds b.1.1.1.1 → tbs_means f ≡ Some (tbs_of f, ks)
tbs_judged f b ks e t k =
    let h : is_fitting (tbs_of f) ≡ true = sym (fits_is f) ∙ ap (λ (x : Option Version × (Unit {0} × EndsBrief)). tbs_fits x.0 x.1.1) e ∙ t in
    let l : version_kinds f.0 ++ list_kinds f.1.1.1.1 ≡ ks = sym (ap (λ v. version_kinds v ++ gone_kinds (brief_if no_items f.1.1.1.1)) (version_kept f.0) ∙ ap (λ x. version_kinds f.0 ++ x) (kinds_kept f.1.1.1.1)) ∙ ap (λ (x : Option Version × (Unit {0} × EndsBrief)). version_kinds x.0 ++ gone_kinds x.1.1.1.1) e ∙ sym k in
    rw (h, l) refl

pub tbs_not_judged : {A : Type 0} (f : TbsFields A) (b : Option Version × (Unit {0} × EndsBrief)) → tbs_brief f ≡ b → tbs_fits b.0 b.1.1 ≡ false → tbs_means f ≡ None
tbs_not_judged f b e t =
    let h : is_fitting (tbs_of f) ≡ false = sym (fits_is f) ∙ ap (λ (x : Option Version × (Unit {0} × EndsBrief)). tbs_fits x.0 x.1.1) e ∙ t in
    rw h refl

-- What is kept of the fields of a revocation list says what they mean.
use Rattle.std.proofs.Common.{◌≡◌, Bool, true, false, List, Option, Some, None, refl, sym, ap, ◌∙◌}
use Rattle.x509_der.specs.Types.{Deviation}
use Rattle.x509_names.specs.Types.{Version}
use Rattle.x509_outline.specs.Versions.{list_kinds, gone_kinds}
use Rattle.x509_outline.specs.facts.Versions.{kinds_kept, version_kept}
use Rattle.x509_list_outlines.specs.TbsCertLists.{TbsListFields, EndsBrief, version_fits, tbs_list_brief, tbs_list_of, tbs_list_means}

-- the version that is kept fits where the one that was gone past does
fits_is : {A : Type 0} (f : TbsListFields A) (b : Option Version × (Unit {0} × EndsBrief)) → tbs_list_brief f ≡ b → version_fits f.0 ≡ version_fits b.0
fits_is f b e = sym (ap version_fits (version_kept f.0)) ∙ ap (λ (x : Option Version × (Unit {0} × EndsBrief)). version_fits x.0) e

pub list_judged : {A : Type 0} (f : TbsListFields A) (b : Option Version × (Unit {0} × EndsBrief)) (ks : List Deviation) → tbs_list_brief f ≡ b → version_fits b.0 ≡ true → ks ≡ gone_kinds b.1.1.1.1 → tbs_list_means f ≡ Some (tbs_list_of f, ks)
list_judged f b ks e t k =
    let h : version_fits f.0 ≡ true = fits_is f b e ∙ t in
    let l : list_kinds f.1.1.1.1 ≡ ks = sym (kinds_kept f.1.1.1.1) ∙ ap (λ (x : Option Version × (Unit {0} × EndsBrief)). gone_kinds x.1.1.1.1) e ∙ sym k in
    rw (h, l) refl

pub list_not_judged : {A : Type 0} (f : TbsListFields A) (b : Option Version × (Unit {0} × EndsBrief)) → tbs_list_brief f ≡ b → version_fits b.0 ≡ false → tbs_list_means f ≡ None
list_not_judged f b e t =
    let h : version_fits f.0 ≡ false = fits_is f b e ∙ t in
    rw h refl

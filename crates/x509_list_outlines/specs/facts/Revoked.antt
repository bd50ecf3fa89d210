-- What the fields of a revoked certificate mean keeps the laws.
use Rattle.std.proofs.Common.{◌≡◌, ◌∙◌, ap, subst, ◌≤◌, List, [], length, Option, Some, arith}
use Rattle.x509_der.specs.Types.{Deviation}
use Rattle.x509_der.specs.laws.Meaning.{IsMeaning}
use Rattle.x509_der.specs.laws.View.{some_one}
use Rattle.x509_outline_parts.specs.Extensions.{extensions}
use Rattle.x509_outline_parts.specs.declared.extension_outline.ExtensionOutline.{ExtensionOutline}
use Rattle.x509_outline.specs.Versions.{list_in, written_list, list_kinds}
use Rattle.x509_outline.specs.facts.Versions.{same_list, no_list_kinds, clean_list, kept_list, read_list, few_list_kinds}
use Rattle.x509_list_outlines.specs.Revoked.{RevokedFields, revoked_inner, revoked_base, revoked_of, revoked_means, revoked_back, revoked_meaning}
use Rattle.x509_list_outlines.specs.declared.revoked_certificate_outline.RevokedCertificateOutline.{RevokedCertificateOutline}

-- the fields that are written mean the value
written_means : {A : Type 0} (v : RevokedCertificateOutline A) → revoked_means (revoked_back v) ≡ Some (v, [])
written_means {A} v =
    let ks = list_kinds (written_list v.crl_entry_extensions) in
    let P : List (ExtensionOutline A) → Option (RevokedCertificateOutline A × List Deviation) = λ es. Some (record { user_certificate = v.user_certificate; revocation_date = v.revocation_date; crl_entry_extensions = es }, ks) in
    ap P (same_list v.crl_entry_extensions) ∙ ap (λ x. Some (v, x)) (no_list_kinds v.crl_entry_extensions)

pub means_revoked : {A : Type 0} (f : RevokedFields A) (v : RevokedCertificateOutline A) (ks : List Deviation) → revoked_means f ≡ Some (v, ks) → (revoked_of f ≡ v) × (list_kinds f.1.1 ≡ ks)
means_revoked f v ks e = some_one (revoked_of f) v (list_kinds f.1.1) ks e

-- fields without a deviation are those that are written of what they mean
clean_fields : {A : Type 0} (f : RevokedFields A) → list_kinds f.1.1 ≡ [] → f ≡ revoked_back (revoked_of f)
clean_fields {A} f e =
    let P : Option (List (ExtensionOutline A)) → RevokedFields A = λ es. (f.0, (f.1.0, es)) in
    ap P (clean_list f.1.1 e)

pub revoked_is : {A : Type 0} → IsMeaning (revoked_meaning {A = A}) revoked_base
revoked_is {A} = record {
  written = λ v d r. (written_means v, d, r);
  stays = λ v d. d;
  clean = λ f v e d r. let m = means_revoked f v [] e in clean_fields f m.1 ∙ ap revoked_back m.0;
  kept = λ f v ks e d.
      let P : RevokedCertificateOutline A → Type 0 = λ w. revoked_inner.valid (revoked_back w) in
      subst P (means_revoked f v ks e).0 (d.0, (d.1.0, kept_list extensions f.1.1 d.1.1));
  read = λ f v ks e r.
      let P : RevokedCertificateOutline A → Type 0 = λ w. revoked_inner.readable (revoked_back w) in
      subst P (means_revoked f v ks e).0 (r.0, (r.1.0, read_list extensions f.1.1 r.1.1));
}

-- at most one deviation
pub revoked_one : {A : Type 0} (f : RevokedFields A) (v : RevokedCertificateOutline A) (ks : List Deviation) → revoked_means f ≡ Some (v, ks) → length ks ≤ 1
revoked_one f v ks e = omega (arith, few_list_kinds f.1.1, ap length (means_revoked f v ks e).1)

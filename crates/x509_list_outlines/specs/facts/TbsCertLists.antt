-- What the fields of the signed part of a revocation list mean keeps the laws.
use Rattle.std.proofs.Common.{◌≡◌, ◌∙◌, refl, ap, sym, subst, ℕ, ◌≤◌, ◌||◌, eqb, Bool, true, false, List, [], length, Option, Some, None, arith}
use Rattle.std.proofs.lemmas.Bool.Decides.{nat_tests}
use Rattle.x509_der.specs.Types.{Deviation}
use Rattle.x509_der.specs.laws.Meaning.{IsMeaning}
use Rattle.x509_names.specs.Types.{Version}
use Rattle.x509_names.specs.Types.version.{V1, V2, V3}
use Rattle.x509_names.specs.Versions.{version}
use Rattle.x509_outline_parts.specs.declared.extension_outline.ExtensionOutline.{ExtensionOutline}
use Rattle.x509_outline.specs.Versions.{version_in, written_version, list_in, written_list, list_kinds, read_if}
use Rattle.x509_outline.specs.facts.Versions.{same_version, kept_version, read_version, same_list, no_list_kinds, clean_list, kept_list, read_list, few_list_kinds, was_read}
use Rattle.x509_list_outlines.specs.TbsCertLists.{TbsListFields, extensions_field, tbs_list_inner, tbs_list_base, version_fits, tbs_list_with, required_of, tbs_list_of, tbs_list_back, tbs_list_means, tbs_list_meaning}
use Rattle.x509_list_outlines.specs.declared.tbs_cert_list_outline.TbsCertListOutline.{TbsCertListOutline}

-- fields that are told apart by their first bytes
pub version_apart : (c : ℕ) → ((eqb c 48 || (eqb c 48 || (eqb c 23 || eqb c 24))) || ((eqb c 23 || eqb c 24) || (eqb c 48 || eqb c 160))) ≡ true → (false || eqb c 2) ≡ false
version_apart c h = grind (arith, nat_tests)

pub next_update_apart : (c : ℕ) → (eqb c 48 || eqb c 160) ≡ true → (false || (eqb c 23 || eqb c 24)) ≡ false
next_update_apart c h = grind (arith, nat_tests)

pub revoked_apart : (c : ℕ) → eqb c 160 ≡ true → (false || eqb c 48) ≡ false
revoked_apart c h = grind (arith, nat_tests)

-- a version that fits is the one that is written of what it means
fit_version : (o : Option Version) → version_fits o ≡ true → o ≡ written_version (version_in o)
fit_version None e = refl
fit_version (Some V1) e = cc
fit_version (Some V2) e = refl
fit_version (Some V3) e = refl

-- the fields that are written mean the value, where its version fits
written_means : {A : Type 0} (v : TbsCertListOutline A) → version_fits (written_version v.version) ≡ true → tbs_list_means (tbs_list_back v) ≡ Some (v, [])
written_means v h =
    let t = version_fits (written_version v.version) in
    let ks = list_kinds (written_list v.crl_extensions) in
    ap (λ n. read_if t (tbs_list_with n (required_of v) v.next_update v.revoked_certificates (list_in (written_list v.crl_extensions))) ks) (same_version v.version)
    ∙ ap (λ es. read_if t (tbs_list_with v.version (required_of v) v.next_update v.revoked_certificates es) ks) (same_list v.crl_extensions)
    ∙ ap (λ x. read_if t v x) (no_list_kinds v.crl_extensions)
    ∙ ap (λ b. read_if b v []) h

pub means_list : {A : Type 0} (f : TbsListFields A) (v : TbsCertListOutline A) (ks : List Deviation) → tbs_list_means f ≡ Some (v, ks) → (version_fits f.0 ≡ true) × ((tbs_list_of f ≡ v) × (list_kinds f.1.1.1.1 ≡ ks))
means_list f v ks e = was_read (version_fits f.0) (tbs_list_of f) v (list_kinds f.1.1.1.1) ks e

-- fields without a deviation are those that are written of what they mean
clean_fields : {A : Type 0} (f : TbsListFields A) → version_fits f.0 ≡ true → list_kinds f.1.1.1.1 ≡ [] → f ≡ tbs_list_back (tbs_list_of f)
clean_fields {A} f t e =
    let P : Option Version → TbsListFields A = λ n. (n, f.1) in
    let Q : Option (List (ExtensionOutline A)) → TbsListFields A = λ es. (written_version (version_in f.0), (f.1.0, (f.1.1.0, (f.1.1.1.0, es)))) in
    ap P (fit_version f.0 t) ∙ ap Q (clean_list f.1.1.1.1 e)

pub tbs_list_is : {A : Type 0} → IsMeaning (tbs_list_meaning {A = A}) tbs_list_base
tbs_list_is {A} = record {
  written = λ v d r. (written_means v r.0, d, r.1);
  stays = λ v d. d;
  clean = λ f v e d r. let m = means_list f v [] e in clean_fields f m.0 m.1.1 ∙ ap tbs_list_back m.1.0;
  kept = λ f v ks e d.
      let P : TbsCertListOutline A → Type 0 = λ w. tbs_list_inner.valid (tbs_list_back w) in
      subst P (means_list f v ks e).1.0 (kept_version version f.0 d.0, (d.1.0, (d.1.1.0, (d.1.1.1.0, kept_list extensions_field f.1.1.1.1 d.1.1.1.1))));
  read = λ f v ks e r.
      let m = means_list f v ks e in
      let P : TbsCertListOutline A → Type 0 = λ w. (version_fits (written_version w.version) ≡ true) × tbs_list_inner.readable (tbs_list_back w) in
      let t : version_fits (written_version (version_in f.0)) ≡ true = sym (ap version_fits (fit_version f.0 m.0)) ∙ m.0 in
      subst P m.1.0 (t, (read_version version f.0 r.0, (r.1.0, (r.1.1.0, (r.1.1.1.0, read_list extensions_field f.1.1.1.1 r.1.1.1.1)))));
}

-- at most one deviation
pub tbs_list_one : {A : Type 0} (f : TbsListFields A) (v : TbsCertListOutline A) (ks : List Deviation) → tbs_list_means f ≡ Some (v, ks) → length ks ≤ 1
tbs_list_one f v ks e = omega (arith, few_list_kinds f.1.1.1.1, ap length (means_list f v ks e).1.1)

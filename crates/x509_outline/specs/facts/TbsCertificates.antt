-- What the fields of the signed part of a certificate mean keeps the laws; both deviations may stand over one element.
use Rattle.std.proofs.Common.{◌≡◌, ◌∙◌, refl, ap, subst, ℕ, ◌+◌, ◌≤◌, ◌||◌, eqb, Bool, true, false, ◌&&◌, List, [], ◌++◌, length, length-append, Option, Some, None, arith}
use Rattle.std.proofs.lemmas.Bool.Decides.{nat_tests}
use Rattle.x509_der.specs.Types.{Deviation}
use Rattle.x509_der.specs.MarkOrder.{Ascending}
use Rattle.x509_der.specs.Optional.{optional}
use Rattle.x509_der.specs.Shape.{Lawful}
use Rattle.x509_der.specs.Tally.{Tally}
use Rattle.x509_der.specs.View.{IsSeen}
use Rattle.x509_der.specs.facts.Tally.{none_marks}
use Rattle.x509_der.specs.laws.Meaning.{IsMeaning, tagged_markable, tagged_more, first_more, seen_more}
use Rattle.x509_der.specs.laws.Tagged.{tagged_lawful, tagged_spare}
use Rattle.x509_names.specs.Types.{Version}
use Rattle.x509_names.specs.Types.version.{V1, V2, V3}
use Rattle.x509_names.specs.Versions.{version}
use Rattle.x509_outline_parts.specs.declared.extension_outline.ExtensionOutline.{ExtensionOutline}
use Rattle.x509_outline.specs.Versions.{version_in, written_version, version_kinds, list_in, written_list, list_kinds, ids_fit, extensions_fit, read_if}
use Rattle.x509_outline.specs.TbsCertificates.{TbsFields, version_field, extensions_field, after_version, tbs_inner, tbs_base, is_fitting, tbs_with, required_of, tbs_of, tbs_back, tbs_means, tbs_meaning}
use Rattle.x509_outline.specs.facts.Versions.{same_version, no_version_kinds, clean_version, kept_version, read_version, same_list, no_list_kinds, clean_list, kept_list, read_list, none_left, few_list_kinds, ascends, was_read}
use Rattle.x509_outline.specs.declared.tbs_certificate_outline.TbsCertificateOutline.{TbsCertificateOutline}

-- fields that are told apart by their first bytes
pub version_apart : (c : ℕ) → (eqb c 2 || (eqb c 48 || (eqb c 48 || (eqb c 48 || (eqb c 48 || eqb c 48)))) || (eqb c 129 || (eqb c 130 || eqb c 163))) ≡ true → (false || eqb c 160) ≡ false
version_apart c h = grind (arith, nat_tests)

pub issuer_id_apart : (c : ℕ) → (eqb c 130 || eqb c 163) ≡ true → (false || eqb c 129) ≡ false
issuer_id_apart c h = grind (arith, nat_tests)

pub subject_id_apart : (c : ℕ) → eqb c 163 ≡ true → (false || eqb c 130) ≡ false
subject_id_apart c h = grind (arith, nat_tests)

-- the fields that are written mean the value, where its version fits
written_means : {A : Type 0} (v : TbsCertificateOutline A) → is_fitting v ≡ true → tbs_means (tbs_back v) ≡ Some (v, [])
written_means v h =
    let i = v.issuer_unique_id in
    let s = v.subject_unique_id in
    let ks = version_kinds (written_version v.version) in
    let ls = list_kinds (written_list v.extensions) in
    ap (λ n. read_if (ids_fit n i s && extensions_fit n (list_in (written_list v.extensions))) (tbs_with n (required_of v) i s (list_in (written_list v.extensions))) (ks ++ ls)) (same_version v.version)
    ∙ ap (λ es. read_if (ids_fit v.version i s && extensions_fit v.version es) (tbs_with v.version (required_of v) i s es) (ks ++ ls)) (same_list v.extensions)
    ∙ ap (λ x. read_if (is_fitting v) v (x ++ ls)) (no_version_kinds v.version)
    ∙ ap (λ x. read_if (is_fitting v) v x) (no_list_kinds v.extensions)
    ∙ ap (λ t. read_if t v []) h

pub means_tbs : {A : Type 0} (f : TbsFields A) (v : TbsCertificateOutline A) (ks : List Deviation) → tbs_means f ≡ Some (v, ks) → (is_fitting (tbs_of f) ≡ true) × ((tbs_of f ≡ v) × (version_kinds f.0 ++ list_kinds f.1.1.1.1 ≡ ks))
means_tbs f v ks e = was_read (is_fitting (tbs_of f)) (tbs_of f) v (version_kinds f.0 ++ list_kinds f.1.1.1.1) ks e

-- fields without a deviation are those that are written of what they mean
clean_fields : {A : Type 0} (f : TbsFields A) → version_kinds f.0 ++ list_kinds f.1.1.1.1 ≡ [] → f ≡ tbs_back (tbs_of f)
clean_fields {A} f e =
    let k = none_left (version_kinds f.0) (list_kinds f.1.1.1.1) e in
    let P : Option Version → TbsFields A = λ n. (n, f.1) in
    let Q : Option (List (ExtensionOutline A)) → TbsFields A = λ es. (written_version (version_in f.0), (f.1.0, (f.1.1.0, (f.1.1.1.0, es)))) in
    ap P (clean_version f.0 k.0) ∙ ap Q (clean_list f.1.1.1.1 k.1)

pub tbs_is : {A : Type 0} → IsMeaning (tbs_meaning {A = A}) tbs_base
tbs_is {A} = record {
  written = λ v d r. (written_means v r.0, d, r.1);
  stays = λ v d. d;
  clean = λ f v e d r. let m = means_tbs f v [] e in clean_fields f m.1.1 ∙ ap tbs_back m.1.0;
  kept = λ f v ks e d.
      let P : TbsCertificateOutline A → Type 0 = λ w. tbs_inner.valid (tbs_back w) in
      subst P (means_tbs f v ks e).1.0 (kept_version version_field f.0 d.0, (d.1.0, (d.1.1.0, (d.1.1.1.0, kept_list extensions_field f.1.1.1.1 d.1.1.1.1))));
  read = λ f v ks e r.
      let m = means_tbs f v ks e in
      let P : TbsCertificateOutline A → Type 0 = λ w. (is_fitting w ≡ true) × tbs_inner.readable (tbs_back w) in
      subst P m.1.0 (m.0, (read_version version_field f.0 r.0, (r.1.0, (r.1.1.0, (r.1.1.1.0, read_list extensions_field f.1.1.1.1 r.1.1.1.1)))));
}

-- a version that is spelled has a header to spare
version_spare : Lawful version → Lawful version_field → (o : Option Version) (p : List ℕ) (y : Tally) → (optional version_field).spelled o p y → length (version_kinds o) + length y.marks ≤ y.headers
version_spare l k None p y a = omega (arith, ap length (none_marks y a.1))
version_spare l k (Some V1) p y a = tagged_spare 160 version l V1 p y a
version_spare l k (Some V2) p y a = omega (arith, k.few V2 p y a)
version_spare l k (Some V3) p y a = omega (arith, k.few V3 p y a)

tbs_seen : {A : Type 0} → Lawful version → Lawful version_field → Lawful (after_version {A = A}) → Lawful (tbs_inner {A = A}) → IsSeen (tbs_meaning {A = A}) tbs_base
tbs_seen {A} n m r l = seen_more tbs_meaning tbs_base (tagged_markable 48 tbs_inner l) tbs_is
    (λ f v ks p y e a. omega (
      arith,
      ap length (means_tbs {A = A} f v ks e).1.1,
      length-append (version_kinds f.0) (list_kinds f.1.1.1.1),
      few_list_kinds f.1.1.1.1,
      tagged_more 48 tbs_inner f p y a (length (version_kinds f.0)) (first_more (optional version_field) after_version r f.0 f.1 a.content a.part a.spelled (length (version_kinds f.0)) (version_spare n m f.0 a.spelled.front a.spelled.first a.spelled.fore)),
    ))
    (λ f v ks e. subst Ascending (means_tbs {A = A} f v ks e).1.1 (ascends f.0 f.1.1.1.1))

pub tbs_keeps : {A : Type 0} → Lawful version → Lawful version_field → Lawful (after_version {A = A}) → Lawful (tbs_inner {A = A}) → Lawful (tbs_base {A = A}) × IsSeen (tbs_meaning {A = A}) tbs_base
tbs_keeps n m r l = (tagged_lawful 48 tbs_inner l, tbs_seen n m r l)

-- What the fields of the signed part of a certificate mean keeps the laws; both deviations may stand over one element.
use Rattle.std.specs.Prelude.{◌&&◌}
use Rattle.std.proofs.Common.{◌≡◌, ◌∙◌, refl, ap, subst, ℕ, ◌+◌, ◌≤◌, ◌||◌, eqb, Bool, true, false, List, [], ◌∷◌, ◌++◌, length, length-append, Option, Some, None, arith}
use Rattle.std.proofs.lemmas.Bool.Decides.{nat_tests}
use Rattle.x509_der.specs.Types.{Deviation}
use Rattle.x509_der.specs.Element.{element}
use Rattle.x509_der.specs.MarkOrder.{Ascending}
use Rattle.x509_der.specs.Optional.{optional}
use Rattle.x509_der.specs.Shape.{Shape, Lawful}
use Rattle.x509_der.specs.Tally.{Tally}
use Rattle.x509_der.specs.View.{IsSeen}
use Rattle.x509_der.specs.facts.Lists.{same_append}
use Rattle.x509_der.specs.facts.Tally.{none_marks}
use Rattle.x509_der.specs.laws.Meaning.{IsMeaning, tagged_markable, tagged_more, first_more, seen_more}
use Rattle.x509_der.specs.laws.StrictSpelling.{agree_optional}
use Rattle.x509_der.specs.laws.Tagged.{tagged_lawful, tagged_spare}
use Rattle.x509_names.specs.Types.{Version}
use Rattle.x509_names.specs.Types.version.{V1, V2, V3}
use Rattle.x509_names.specs.Validities.{validity}
use Rattle.x509_names.specs.Versions.{version}
use Rattle.x509_names.specs.facts.NameFacts.{name_agrees}
use Rattle.x509_keys.specs.AlgorithmIdentifier.{written_fields}
use Rattle.x509_keys.specs.ReadIf.{read_if}
use Rattle.x509_keys.specs.facts.AlgorithmIdentifier.{algorithm_agrees}
use Rattle.x509_keys.specs.facts.ReadIf.{was_read}
use Rattle.x509_keys.specs.facts.SubjectPublicKeyInfos.{subject_agrees}
use Rattle.picky_asn1_x509_parts.specs.Extensions.{ExtensionFields}
use Rattle.picky_asn1_x509_parts.specs.ExtensionLists.{extensions, extensions_bytes}
use Rattle.picky_asn1_x509_parts.specs.facts.ExtensionListFacts.{extensions_agree}
use Rattle.picky_asn1_x509.specs.declared.tbs_certificate.TbsCertificate.{TbsCertificate}
use Rattle.picky_asn1_x509.specs.TbsCertificates.{RequiredFields, EndFields, TbsFields, version_field, required_fields, extensions_field, ends, after_version, tbs_inner, tbs_base, version_in, written_version, version_kinds, list_in, written_list, list_kinds, is_fitting, ids_fit, extensions_fit, tbs_with, required_of, issuer_id_field, subject_id_field, tbs_of, tbs_back, tbs_means, tbs_meaning, tbs_certificate, required_bytes, id_bytes, list_bytes, end_bytes, tbs_bytes}

-- fields that are told apart by their first bytes
pub version_apart : (c : ℕ) → (eqb c 2 || (eqb c 48 || (eqb c 48 || (eqb c 48 || (eqb c 48 || eqb c 48)))) || (eqb c 129 || (eqb c 130 || eqb c 163))) ≡ true → (false || eqb c 160) ≡ false
version_apart c h = grind (arith, nat_tests)

pub issuer_id_apart : (c : ℕ) → (eqb c 130 || eqb c 163) ≡ true → (false || eqb c 129) ≡ false
issuer_id_apart c h = grind (arith, nat_tests)

pub subject_id_apart : (c : ℕ) → eqb c 163 ≡ true → (false || eqb c 130) ≡ false
subject_id_apart c h = grind (arith, nat_tests)

-- a version that is written, and one that was read
same_version : (v : Version) → version_in (written_version v) ≡ v
same_version V1 = refl
same_version V2 = refl
same_version V3 = refl

no_version_kinds : (v : Version) → version_kinds (written_version v) ≡ []
no_version_kinds V1 = refl
no_version_kinds V2 = refl
no_version_kinds V3 = refl

clean_version : (o : Option Version) → version_kinds o ≡ [] → o ≡ written_version (version_in o)
clean_version None e = refl
clean_version (Some V1) e = cc
clean_version (Some V2) e = refl
clean_version (Some V3) e = refl

kept_version : (s : Shape Version) (o : Option Version) → (optional s).valid o → (optional s).valid (written_version (version_in o))
kept_version s None d = tt
kept_version s (Some V1) d = tt
kept_version s (Some V2) d = d
kept_version s (Some V3) d = d

read_version : (s : Shape Version) (o : Option Version) → (optional s).readable o → (optional s).readable (written_version (version_in o))
read_version s None d = tt
read_version s (Some V1) d = tt
read_version s (Some V2) d = d
read_version s (Some V3) d = d

-- a list that is written, and one that was read
same_list : {E : Type 0} (es : List E) → list_in (written_list es) ≡ es
same_list [] = refl
same_list (e ∷ es) = refl

no_list_kinds : {E : Type 0} (es : List E) → list_kinds (written_list es) ≡ []
no_list_kinds [] = refl
no_list_kinds (e ∷ es) = refl

clean_list : {E : Type 0} (o : Option (List E)) → list_kinds o ≡ [] → o ≡ written_list (list_in o)
clean_list None e = refl
clean_list (Some []) e = cc
clean_list (Some (x ∷ es)) e = refl

kept_list : {E : Type 0} (s : Shape (List E)) (o : Option (List E)) → (optional s).valid o → (optional s).valid (written_list (list_in o))
kept_list s None d = tt
kept_list s (Some []) d = tt
kept_list s (Some (e ∷ es)) d = d

read_list : {E : Type 0} (s : Shape (List E)) (o : Option (List E)) → (optional s).readable o → (optional s).readable (written_list (list_in o))
read_list s None d = tt
read_list s (Some []) d = tt
read_list s (Some (e ∷ es)) d = d

-- neither of two lists has anything where both together have nothing
none_left : (ks ls : List Deviation) → ks ++ ls ≡ [] → (ks ≡ []) × (ls ≡ [])
none_left [] ls e = (refl, e)
none_left (k ∷ ks) ls e = cc

-- the fields that are written mean the value, where its version fits
written_means : {A : Type 0} (v : TbsCertificate A) → is_fitting v ≡ true → tbs_means (tbs_back v) ≡ Some (v, [])
written_means v h =
    let i = v.issuer_unique_id in
    let s = v.subject_unique_id in
    let ks = version_kinds (written_version v.version) in
    let ls = list_kinds (written_list v.extensions) in
    ap (λ n. read_if (ids_fit n i s && extensions_fit n (list_in (written_list v.extensions))) (tbs_with n (required_of v) i s (list_in (written_list v.extensions))) (ks ++ ls)) (same_version v.version)
    ∙ ap (λ es. read_if (ids_fit v.version i s && extensions_fit v.version es) (tbs_with v.version (required_of v) i s es) (ks ++ ls)) (same_list v.extensions)
    ∙ ap (λ x. read_if (is_fitting v) v (x ++ ls)) (no_version_kinds v.version)
    ∙ ap (λ x. read_if (is_fitting v) v x) (no_list_kinds v.extensions)
    ∙ ap (λ t. read_if t v []) h

pub means_tbs : {A : Type 0} (f : TbsFields A) (v : TbsCertificate A) (ks : List Deviation) → tbs_means f ≡ Some (v, ks) → (is_fitting (tbs_of f) ≡ true) × ((tbs_of f ≡ v) × (version_kinds f.0 ++ list_kinds f.1.1.1.1 ≡ ks))
means_tbs f v ks e = was_read (is_fitting (tbs_of f)) (tbs_of f) v (version_kinds f.0 ++ list_kinds f.1.1.1.1) ks e

-- fields without a deviation are those that are written of what they mean
clean_fields : {A : Type 0} (f : TbsFields A) → version_kinds f.0 ++ list_kinds f.1.1.1.1 ≡ [] → f ≡ tbs_back (tbs_of f)
clean_fields {A} f e =
    let k = none_left (version_kinds f.0) (list_kinds f.1.1.1.1) e in
    let P : Option Version → TbsFields A = λ n. (n, f.1) in
    let Q : Option (List (ExtensionFields A)) → TbsFields A = λ es. (written_version (version_in f.0), (f.1.0, (f.1.1.0, (f.1.1.1.0, es)))) in
    ap P (clean_version f.0 k.0) ∙ ap Q (clean_list f.1.1.1.1 k.1)

pub tbs_is : {A : Type 0} → IsMeaning (tbs_meaning {A = A}) tbs_base
tbs_is {A} = record {
  written = λ v d r. (written_means v r.0, d, r.1);
  stays = λ v d. d;
  clean = λ f v e d r. let m = means_tbs f v [] e in clean_fields f m.1.1 ∙ ap tbs_back m.1.0;
  kept = λ f v ks e d.
      let P : TbsCertificate A → Type 0 = λ w. tbs_inner.valid (tbs_back w) in
      subst P (means_tbs f v ks e).1.0 (kept_version version_field f.0 d.0, (d.1.0, (d.1.1.0, (d.1.1.1.0, kept_list extensions_field f.1.1.1.1 d.1.1.1.1))));
  read = λ f v ks e r.
      let m = means_tbs f v ks e in
      let P : TbsCertificate A → Type 0 = λ w. (is_fitting w ≡ true) × tbs_inner.readable (tbs_back w) in
      subst P m.1.0 (m.0, (read_version version_field f.0 r.0, (r.1.0, (r.1.1.0, (r.1.1.1.0, read_list extensions_field f.1.1.1.1 r.1.1.1.1)))));
}

-- a version that is spelled has a header to spare
version_spare : Lawful version → Lawful version_field → (o : Option Version) (p : List ℕ) (y : Tally) → (optional version_field).spelled o p y → length (version_kinds o) + length y.marks ≤ y.headers
version_spare l k None p y a = omega (arith, ap length (none_marks y a.1))
version_spare l k (Some V1) p y a = tagged_spare 160 version l V1 p y a
version_spare l k (Some V2) p y a = omega (arith, k.few V2 p y a)
version_spare l k (Some V3) p y a = omega (arith, k.few V3 p y a)

few_list_kinds : {E : Type 0} (o : Option (List E)) → length (list_kinds o) ≤ 1
few_list_kinds None = omega arith
few_list_kinds (Some []) = omega arith
few_list_kinds (Some (e ∷ es)) = omega arith

ascends : {E : Type 0} (o : Option Version) (l : Option (List E)) → Ascending (version_kinds o ++ list_kinds l)
ascends None None = tt
ascends None (Some []) = (tt, tt)
ascends None (Some (e ∷ es)) = tt
ascends (Some V1) None = (tt, tt)
ascends (Some V1) (Some []) = ((omega arith, tt), (tt, tt))
ascends (Some V1) (Some (e ∷ es)) = (tt, tt)
ascends (Some V2) None = tt
ascends (Some V2) (Some []) = (tt, tt)
ascends (Some V2) (Some (e ∷ es)) = tt
ascends (Some V3) None = tt
ascends (Some V3) (Some []) = (tt, tt)
ascends (Some V3) (Some (e ∷ es)) = tt

tbs_seen : {A : Type 0} → Lawful version → Lawful version_field → Lawful (after_version {A = A}) → Lawful (tbs_inner {A = A}) → IsSeen (tbs_meaning {A = A}) tbs_base
tbs_seen {A} n m r l = seen_more tbs_meaning tbs_base (tagged_markable 48 tbs_inner l) tbs_is
    (λ f v ks p y e a. omega (
      arith,
      ap length (means_tbs {A = A} f v ks e).1.1,
      length-append (version_kinds f.0) (list_kinds f.1.1.1.1),
      few_list_kinds f.1.1.1.1,
      tagged_more 48 tbs_inner f p y a (length (version_kinds f.0)) (first_more (optional version_field) after_version r f.0 f.1 a.content a.part a.spelled (length (version_kinds f.0)) (version_spare n m f.0 a.spelled.front a.spelled.first a.spelled.fore)),
    ))
    (λ f v ks e. subst Ascending (means_tbs {A = A} f v ks e).1.1 (ascends f.0 f.1.1.1.1))

pub tbs_keeps : {A : Type 0} → Lawful version → Lawful version_field → Lawful (after_version {A = A}) → Lawful (tbs_inner {A = A}) → Lawful (tbs_base {A = A}) × IsSeen (tbs_meaning {A = A}) tbs_base
tbs_keeps n m r l = (tagged_lawful 48 tbs_inner l, tbs_seen n m r l)

-- what is written is the strict spelling
pub required_agree : {A : Type 0} (c : RequiredFields A) → required_fields.strict c ≡ required_bytes c
required_agree c =
    ap (λ x. element 2 c.0 ++ x) (same_append (algorithm_agrees (written_fields c.1.0)) (same_append (name_agrees c.1.1.0) (ap (λ x. validity.strict c.1.1.1.0 ++ x) (same_append (name_agrees c.1.1.1.1.0) (subject_agrees c.1.1.1.1.1)))))

list_agrees : {A : Type 0} (es : Option (List (ExtensionFields A))) → (optional extensions_field).strict es ≡ list_bytes es
list_agrees es = agree_optional extensions_field (λ l. element 163 (extensions_bytes l)) (λ l. ap (element 163) (extensions_agree l)) es

end_agrees : {A : Type 0} (e : EndFields A) → ends.strict e ≡ end_bytes e
end_agrees e = ap (λ x. id_bytes 129 e.0 ++ (id_bytes 130 e.1.0 ++ x)) (list_agrees e.1.1)

pub tbs_agrees : {A : Type 0} (v : TbsCertificate A) → tbs_certificate.strict v ≡ tbs_bytes v
tbs_agrees v = ap (λ x. element 48 ((optional version_field).strict (written_version v.version) ++ x)) (same_append (required_agree (required_of v)) (end_agrees (tbs_back v).1.1))

-- a value is read back exactly where its version fits and its fields are read back
version_readable : (v : Version) → (optional version_field).readable (written_version v)
version_readable V1 = tt
version_readable V2 = tt
version_readable V3 = tt

list_readable : {A : Type 0} (es : List (ExtensionFields A)) → extensions.readable es → (optional extensions_field).readable (written_list es)
list_readable [] r = tt
list_readable (e ∷ es) r = r

readable_list : {A : Type 0} (es : List (ExtensionFields A)) → (optional extensions_field).readable (written_list es) → extensions.readable es
readable_list [] r = tt
readable_list (e ∷ es) r = r

bits_readable : (s : Shape (List Bool)) → ((b : List Bool) → s.readable b) → (bits : Option (List Bool)) → (optional s).readable bits
bits_readable s r None = tt
bits_readable s r (Some b) = r b

pub tbs_readable : {A : Type 0} (v : TbsCertificate A) → (is_fitting v ≡ true) × (required_fields.readable (required_of v) × extensions.readable v.extensions) → tbs_certificate.readable v
tbs_readable v r = (
  r.0,
  (
    version_readable v.version,
    (
      r.1.0,
      (bits_readable issuer_id_field (λ b. tt) v.issuer_unique_id, (bits_readable subject_id_field (λ b. tt) v.subject_unique_id, list_readable v.extensions r.1.1)),
    ),
  ),
)

pub readable_tbs : {A : Type 0} (v : TbsCertificate A) → tbs_certificate.readable v → (is_fitting v ≡ true) × (required_fields.readable (required_of v) × extensions.readable v.extensions)
readable_tbs v r = (r.0, (r.1.1.0, readable_list v.extensions r.1.1.1.1.1))

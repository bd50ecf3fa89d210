-- A walk over a revocation list.
use Rattle.std.proofs.Common.{◌≡◌, ℕ, ◌+◌, ◌==◌, eqb, ◌||◌, true, List, [], ◌++◌, length, refl, sym, ap, ◌∙◌, subst, arith, append-nil, length-append, lit<}
use Rattle.std.proofs.lemmas.Bool.Decides.{nat_tests}
use Rattle.x509_der.specs.BitString.{bit_strings}
use Rattle.x509_der.specs.Element.{element, header}
use Rattle.x509_der.specs.Fields.{Stands}
use Rattle.x509_der.specs.Items.{items}
use Rattle.x509_der.specs.Shape.{IsElement, Lawful, Follows}
use Rattle.x509_der.specs.Tagged.{tagged}
use Rattle.x509_der.specs.Tally.{Tally}
use Rattle.x509_der.specs.laws.Tagged.{tagged_element}
use Rattle.x509_names.specs.Time.{time}
use Rattle.x509_names.specs.Versions.{version}
use Rattle.x509_outline_parts.specs.Algorithms.{algorithm, algorithm_inner, algorithm_parts}
use Rattle.x509_outline_parts.specs.Extensions.{extensions}
use Rattle.x509_outline_parts.specs.Names.{name}
use Rattle.x509_list_outlines.specs.CertificateLists.{CertificateListAt}
use Rattle.x509_list_outlines.specs.Revoked.{revoked}
use Rattle.x509_list_outlines.specs.TbsCertLists.{TbsListFields, tbs_list_inner, tbs_list}
use Rattle.x509_list_outlines.specs.facts.TbsCertLists.{means_list}
use Rattle.x509_list_outlines.specs.declared.certificate_list_outline.CertificateListOutline.{CertificateListOutline}
use Rattle.x509_list_outlines.specs.declared.tbs_cert_list_outline.TbsCertListOutline.{TbsCertListOutline}
use Rattle.x509_fields.specs.Walks.{Walk, Steps, StepsIf, Inside, ToEnd}
use Rattle.x509_fields.specs.facts.Chains.{Passes, passes_none, passes_one, passes_if, to_end, fill_all, fill_part}
use Rattle.x509_fields.specs.facts.Fields.{Before, append_one, at_front, at_back, field_step, optional_step, element_raw, whole_content}
use Rattle.x509_outline_fields.specs.Lists.{TbsListFieldsIn, TbsListIn, ListIn, tbs_list_spans, list_spans}
use Rattle.x509_outline_fields.specs.Walks.{StepsWhere, is_time}
use Rattle.x509_outline_fields.specs.declared.list.CertificateListFields.{CertificateListFields}
use Rattle.x509_outline_fields.specs.declared.list.TbsCertListFields.{TbsCertListFields}
use Rattle.x509_outline_fields.specs.facts.Steps.{tagged_follows, tagged_follows_if, where_step, passes_where}

version_within : (b : ℕ) → eqb b 2 ≡ true → (b == 2) ≡ true
version_within b h = h

time_within : (b : ℕ) → (eqb b 23 || eqb b 24) ≡ true → is_time b ≡ true
time_within b h = grind (arith, nat_tests)

-- the walk before the first step, and behind each of the seven, with what each found
pub record TbsListWalk (at : TbsCertListFields) : Type 0 where
  pub w : Walk
  pub w1 : Walk
  pub w2 : Walk
  pub w3 : Walk
  pub w4 : Walk
  pub w5 : Walk
  pub w6 : Walk
  pub w7 : Walk
  pub t1 : StepsIf 2 w w1 at.version
  pub t2 : Steps w1 w2 at.signature
  pub t3 : Steps w2 w3 at.issuer
  pub t4 : Steps w3 w4 at.this_update
  pub t5 : StepsWhere is_time w4 w5 at.next_update
  pub t6 : StepsIf 48 w5 w6 at.revoked_certificates
  pub t7 : StepsIf 160 w6 w7 at.crl_extensions

tbs_list_passes : (at : TbsCertListFields) (k : TbsListWalk at) → Passes k.w k.w7 (tbs_list_spans at)
tbs_list_passes at k =
    passes_if 2 k.w k.w1 k.w7 at.version _ k.t1
    (passes_one k.w1 k.w2 k.w7 at.signature _ k.t2
    (passes_one k.w2 k.w3 k.w7 at.issuer _ k.t3
    (passes_one k.w3 k.w4 k.w7 at.this_update _ k.t4
    (passes_where is_time k.w4 k.w5 k.w7 at.next_update _ k.t5
    (passes_if 48 k.w5 k.w6 k.w7 at.revoked_certificates _ k.t6
    (passes_if 160 k.w6 k.w7 k.w7 at.crl_extensions _ k.t7 (passes_none k.w7)))))))

pub walked_tbs_list : {A : Type 0} → Lawful version → IsElement version → IsElement (algorithm {A = A}) → IsElement (name {A = A}) → Lawful time → IsElement time → (at : TbsCertListFields) (k : TbsListWalk at) (f : TbsListFields A) (string : List ℕ) (y : Tally) → Stands tbs_list_inner f k.w.at k.w.rest string y → TbsListFieldsIn f at string y × ToEnd k.w (tbs_list_spans at)
walked_tbs_list versions one_version algorithms names times one_time at k f string y st =
    let j0 = st.parts in
    let j1 = j0.second.parts in
    let k1 = j1.first.parts in
    let k2 = k1.second.parts in
    let e1 = j1.second.parts in
    let e2 = e1.second.parts in
    let m1 = k.w.at + length j0.front in
    let rest = j1.back ++ [] in
    let b0 : Before k.w k.w.at k.w.rest [] = record { rest = sym (append-nil k.w.rest); at = refl } in
    let f0 = at_front k.w k.w.at k.w.rest j0.front j0.back [] j0.bytes b0 in
    let then0 : j0.back ++ [] ≡ k1.front ++ (k1.back ++ rest) = ap (λ x. x ++ []) j1.bytes ∙ append_one j1.front j1.back [] ∙ ap (λ x. x ++ rest) k1.bytes ∙ append_one k1.front k1.back rest in
    let P2 : List ℕ → Type 0 = Follows (λ b. b == 2) in
    let r1 = where_step (λ b. b == 2) version versions one_version version_within f.0 k.w.at j0.front (j0.back ++ []) string y k.w k.w1 at.version j0.first.parts f0 (subst P2 (sym then0) (tagged_follows (λ b. b == 2) 48 algorithm_inner (algorithm_parts f.1.0.0) k1.front (k1.back ++ rest) _ refl k1.first.field.spelled)) k.t1 in
    let a1 = at_front k.w1 m1 j0.back j1.front j1.back [] j1.bytes (at_back k.w1 k.w.at j0.front j0.back [] r1.behind) in
    let r2 = field_step algorithm algorithms f.1.0.0 m1 k1.front (k1.back ++ rest) string y k.w1 k.w2 at.signature k1.first.field (at_front k.w1 m1 j1.front k1.front k1.back rest k1.bytes a1) k.t2 in
    let m2 = m1 + length k1.front in
    let r3 = field_step name names f.1.0.1.0 m2 k2.front (k2.back ++ rest) string y k.w2 k.w3 at.issuer k2.first.field (at_front k.w2 m2 k1.back k2.front k2.back rest k2.bytes (at_back k.w2 m1 k1.front k1.back rest r2.behind)) k.t3 in
    let m3 = m2 + length k2.front in
    let r4 = field_step time one_time f.1.0.1.1 m3 k2.back rest string y k.w3 k.w4 at.this_update k2.second.field (at_back k.w3 m2 k2.front k2.back rest r3.behind) k.t4 in
    let m4 = m1 + length j1.front in
    let len : m3 + length k2.back ≡ m4 = omega (arith, ap length k1.bytes, length-append k1.front k1.back, ap length k2.bytes, length-append k2.front k2.back) in
    let a4 : Before k.w4 m4 j1.back [] = record { rest = r4.behind.rest; at = r4.behind.at ∙ len } in
    let then5 : e1.back ++ [] ≡ e2.front ++ (e2.back ++ []) = ap (λ x. x ++ []) e2.bytes ∙ append_one e2.front e2.back [] in
    let PT : List ℕ → Type 0 = Follows is_time in
    let r5 = where_step is_time time times one_time time_within f.1.1.0 m4 e1.front (e1.back ++ []) string y k.w4 k.w5 at.next_update e1.first.parts (at_front k.w4 m4 j1.back e1.front e1.back [] e1.bytes a4) (subst PT (sym then5) (tagged_follows_if is_time 48 (items revoked) f.1.1.1.0 e2.front (e2.back ++ []) _ refl e2.first.field.spelled (tagged_follows_if is_time 160 extensions f.1.1.1.1 e2.back [] _ refl e2.second.field.spelled tt))) k.t5 in
    let m5 = m4 + length e1.front in
    let r6 = optional_step 48 (items revoked) refl (lit< tt) f.1.1.1.0 m5 e2.front (e2.back ++ []) string y k.w5 k.w6 at.revoked_certificates e2.first.parts (at_front k.w5 m5 e1.back e2.front e2.back [] e2.bytes (at_back k.w5 m4 e1.front e1.back [] r5.behind)) (tagged_follows_if (λ b. b == 48) 160 extensions f.1.1.1.1 e2.back [] _ refl e2.second.field.spelled tt) k.t6 in
    let m6 = m5 + length e2.front in
    let r7 = optional_step 160 extensions refl (lit< tt) f.1.1.1.1 m6 e2.back [] string y k.w6 k.w7 at.crl_extensions e2.second.parts (at_back k.w6 m5 e2.front e2.back [] r6.behind) tt k.t7 in (
      record {
        version = r1.field;
        signature = r2.field;
        issuer = r3.field;
        this_update = r4.field;
        next_update = r5.field;
        revoked_certificates = r6.field;
        crl_extensions = r7.field;
      },
      to_end k.w k.w7 (tbs_list_spans at) (tbs_list_passes at k) r7.behind.rest,
    )

-- the walk over a list, which begins inside of its element, and the one inside of what is signed
pub record ListWalk (at : CertificateListFields) (outer : Walk) : Type 0 where
  pub w : Walk
  pub inner : Walk
  pub w1 : Walk
  pub w2 : Walk
  pub w3 : Walk
  pub inside : Inside outer w
  pub within : Inside w inner
  pub t1 : Steps w w1 at.tbs_cert_list
  pub t2 : Steps w1 w2 at.signature_algorithm
  pub t3 : Steps w2 w3 at.signature_value

list_passes : (at : CertificateListFields) (outer : Walk) (k : ListWalk at outer) → Passes k.w k.w3 (list_spans at)
list_passes at outer k =
    passes_one k.w k.w1 k.w3 at.tbs_cert_list _ k.t1
    (passes_one k.w1 k.w2 k.w3 at.signature_algorithm _ k.t2
    (passes_one k.w2 k.w3 k.w3 at.signature_value _ k.t3 (passes_none k.w3)))

pub walked_list : {A : Type 0} → IsElement (tbs_list {A = A}) → IsElement (algorithm {A = A}) → (at : CertificateListFields) (outer : Walk) (k : ListWalk at outer) (v : CertificateListOutline A) (string : List ℕ) (y : Tally) → CertificateListAt v string y → outer.rest ≡ string → outer.at ≡ 0 → ((f : TbsListFields A) (s : List ℕ) (z : Tally) → Stands tbs_list_inner f k.inner.at k.inner.rest s z → TbsListFieldsIn f at.fields s z × ToEnd k.inner (tbs_list_spans at.fields)) → ListIn v at string y
walked_list {A} parts algorithms at outer k v string y a rest start fields =
    let i = whole_content 48 a.content string outer k.w refl (lit< tt) a.bytes rest start k.inside in
    let m = header a.content in
    let b0 : Before k.w m a.content [] = record { rest = i.0 ∙ sym (append-nil a.content); at = i.1 } in
    let f1 = at_front k.w m a.content a.signed a.signatures [] a.fields b0 in
    let r1 = field_step tbs_list parts v.tbs_cert_list m a.signed (a.signatures ++ []) string y k.w k.w1 at.tbs_cert_list a.signed_at.field f1 k.t1 in
    let j = a.signature_at.parts in
    let m1 = m + length a.signed in
    let f2 = at_front k.w1 m1 a.signatures j.front j.back [] j.bytes (at_back k.w1 m a.signed a.signatures [] r1.behind) in
    let r2 = field_step algorithm algorithms v.signature_algorithm m1 j.front (j.back ++ []) string y k.w1 k.w2 at.signature_algorithm j.first.field f2 k.t2 in
    let m2 = m1 + length j.front in
    let r3 = field_step (tagged 3 bit_strings) (tagged_element 3 bit_strings refl (lit< tt)) v.signature_value m2 j.back [] string y k.w2 k.w3 at.signature_value j.second.field (at_back k.w2 m1 j.front j.back [] r2.behind) k.t3 in
    let b = a.signed_at.parts in
    let s = b.parts in
    let n = k.within.content 48 s.content (a.signatures ++ []) (element_raw 48 s.content (element 48 s.content) refl (lit< tt) refl) (f1.rest ∙ ap (λ x. x ++ (a.signatures ++ [])) s.bytes) in
    let place : k.inner.at ≡ m + header s.content = n.1 ∙ ap (λ x. x + header s.content) i.1 in
    let St : ℕ → List ℕ → Type 0 = λ x p. Stands tbs_list_inner b.base x p string y in
    let st = subst (λ x. St x k.inner.rest) (sym place) (subst (St (m + header s.content)) (sym n.0) s.inner) in
    let inner = fields b.base string y st in
    let here : at.tbs_cert_list.start ≡ m = k.t1.start ∙ i.1 in
    let P : TbsCertListOutline A → Type 0 = λ w. TbsListIn w at.fields string y in
    record {
      tbs_cert_list = r1.field;
      fields = subst P (means_list b.base v.tbs_cert_list b.kinds b.means).1.0 (record {
        version_spelled = b.base.0;
        version_means = refl;
        extensions_spelled = b.base.1.1.1.1;
        extensions_mean = refl;
        fields = inner.0;
      });
      signature_algorithm = r2.field;
      signature_value = r3.field;
      fill = fill_all string a.content (list_spans at) k.w a.bytes i.0 i.1 (to_end k.w k.w3 (list_spans at) (list_passes at outer k) r3.behind.rest);
      signed = fill_part string a.signed s.content y a.signed_at.field.tally m at.tbs_cert_list (tbs_list_spans at.fields) k.inner a.signed_at.field.part here (k.t1.end ∙ r1.behind.at) s.bytes n.0 place inner.1;
    }

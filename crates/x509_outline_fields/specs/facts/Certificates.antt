-- A walk over the outline of a certificate.
use Rattle.std.proofs.Common.{◌≡◌, ℕ, ◌+◌, ◌==◌, List, [], ◌++◌, length, refl, sym, ap, ◌∙◌, subst, arith, append-nil, length-append, lit<}
use Rattle.x509_der.specs.BitString.{bit_strings}
use Rattle.x509_der.specs.Element.{element, header}
use Rattle.x509_der.specs.Fields.{Stands}
use Rattle.x509_der.specs.Integer.{integers}
use Rattle.x509_der.specs.Shape.{IsElement, Follows}
use Rattle.x509_der.specs.Tagged.{tagged}
use Rattle.x509_der.specs.Tally.{Tally}
use Rattle.x509_der.specs.laws.Tagged.{tagged_element}
use Rattle.x509_names.specs.Validities.{validity}
use Rattle.x509_names.specs.Versions.{version}
use Rattle.x509_outline_parts.specs.Algorithms.{algorithm}
use Rattle.x509_outline_parts.specs.Extensions.{extensions}
use Rattle.x509_outline_parts.specs.Names.{name}
use Rattle.x509_outline_parts.specs.PublicKeys.{public_key}
use Rattle.x509_outline.specs.Certificates.{CertificateAt}
use Rattle.x509_outline.specs.TbsCertificates.{TbsFields, tbs_inner, tbs_certificate}
use Rattle.x509_outline.specs.facts.TbsCertificates.{means_tbs}
use Rattle.x509_outline.specs.declared.certificate_outline.CertificateOutline.{CertificateOutline}
use Rattle.x509_outline.specs.declared.tbs_certificate_outline.TbsCertificateOutline.{TbsCertificateOutline}
use Rattle.x509_fields.specs.Certificates.{tbs_spans, certificate_spans}
use Rattle.x509_outline_fields.specs.Certificates.{TbsFieldsIn, TbsIn, CertificateIn}
use Rattle.x509_fields.specs.Walks.{Walk, ToEnd}
use Rattle.x509_fields.specs.declared.certificate.TbsCertificateFields.{TbsCertificateFields}
use Rattle.x509_fields.specs.declared.certificate.CertificateFields.{CertificateFields}
use Rattle.x509_fields.specs.facts.Certificates.{TbsWalk, tbs_passes, CertificateWalk, certificate_passes}
use Rattle.x509_fields.specs.facts.Chains.{to_end, fill_all, fill_part}
use Rattle.x509_fields.specs.facts.Fields.{Before, append_one, at_front, at_back, field_step, optional_step, other_tag, other_tag_if, element_raw, whole_content}

pub walked_tbs : {A : Type 0} → IsElement (algorithm {A = A}) → IsElement (name {A = A}) → IsElement validity → IsElement (public_key {A = A}) → (at : TbsCertificateFields) (k : TbsWalk at) (f : TbsFields A) (string : List ℕ) (y : Tally) → Stands tbs_inner f k.w.at k.w.rest string y → TbsFieldsIn f at string y × ToEnd k.w (tbs_spans at)
walked_tbs algorithms names validities keys at k f string y st =
    let j0 = st.parts in
    let j1 = j0.second.parts in
    let k1 = j1.first.parts in
    let k2 = k1.second.parts in
    let k3 = k2.second.parts in
    let k4 = k3.second.parts in
    let k5 = k4.second.parts in
    let e1 = j1.second.parts in
    let e2 = e1.second.parts in
    let m1 = k.w.at + length j0.front in
    let rest = j1.back ++ [] in
    let b0 : Before k.w k.w.at k.w.rest [] = record { rest = sym (append-nil k.w.rest); at = refl } in
    let f0 = at_front k.w k.w.at k.w.rest j0.front j0.back [] j0.bytes b0 in
    let then0 : j0.back ++ [] ≡ k1.front ++ (k1.back ++ rest) = ap (λ x. x ++ []) j1.bytes ∙ append_one j1.front j1.back [] ∙ ap (λ x. x ++ rest) k1.bytes ∙ append_one k1.front k1.back rest in
    let P160 : List ℕ → Type 0 = Follows (λ b. b == 160) in
    let r1 = optional_step 160 version refl (lit< tt) f.0 k.w.at j0.front (j0.back ++ []) string y k.w k.w1 at.version j0.first.parts f0 (subst P160 (sym then0) (other_tag 160 2 integers f.1.0.0 k1.front (k1.back ++ rest) _ refl k1.first.field.spelled)) k.t1 in
    let a1 = at_front k.w1 m1 j0.back j1.front j1.back [] j1.bytes (at_back k.w1 k.w.at j0.front j0.back [] r1.behind) in
    let r2 = field_step (tagged 2 integers) (tagged_element 2 integers refl (lit< tt)) f.1.0.0 m1 k1.front (k1.back ++ rest) string y k.w1 k.w2 at.serial_number k1.first.field (at_front k.w1 m1 j1.front k1.front k1.back rest k1.bytes a1) k.t2 in
    let m2 = m1 + length k1.front in
    let r3 = field_step algorithm algorithms f.1.0.1.0 m2 k2.front (k2.back ++ rest) string y k.w2 k.w3 at.signature k2.first.field (at_front k.w2 m2 k1.back k2.front k2.back rest k2.bytes (at_back k.w2 m1 k1.front k1.back rest r2.behind)) k.t3 in
    let m3 = m2 + length k2.front in
    let r4 = field_step name names f.1.0.1.1.0 m3 k3.front (k3.back ++ rest) string y k.w3 k.w4 at.issuer k3.first.field (at_front k.w3 m3 k2.back k3.front k3.back rest k3.bytes (at_back k.w3 m2 k2.front k2.back rest r3.behind)) k.t4 in
    let m4 = m3 + length k3.front in
    let r5 = field_step validity validities f.1.0.1.1.1.0 m4 k4.front (k4.back ++ rest) string y k.w4 k.w5 at.validity k4.first.field (at_front k.w4 m4 k3.back k4.front k4.back rest k4.bytes (at_back k.w4 m3 k3.front k3.back rest r4.behind)) k.t5 in
    let m5 = m4 + length k4.front in
    let r6 = field_step name names f.1.0.1.1.1.1.0 m5 k5.front (k5.back ++ rest) string y k.w5 k.w6 at.subject k5.first.field (at_front k.w5 m5 k4.back k5.front k5.back rest k5.bytes (at_back k.w5 m4 k4.front k4.back rest r5.behind)) k.t6 in
    let m6 = m5 + length k5.front in
    let r7 = field_step public_key keys f.1.0.1.1.1.1.1 m6 k5.back rest string y k.w6 k.w7 at.subject_public_key_info k5.second.field (at_back k.w6 m5 k5.front k5.back rest r6.behind) k.t7 in
    let m7 = m1 + length j1.front in
    let len : m6 + length k5.back ≡ m7 = omega (arith, ap length k1.bytes, length-append k1.front k1.back, ap length k2.bytes, length-append k2.front k2.back, ap length k3.bytes, length-append k3.front k3.back, ap length k4.bytes, length-append k4.front k4.back, ap length k5.bytes, length-append k5.front k5.back) in
    let a7 : Before k.w7 m7 j1.back [] = record { rest = r7.behind.rest; at = r7.behind.at ∙ len } in
    let then8 : e1.back ++ [] ≡ e2.front ++ (e2.back ++ []) = ap (λ x. x ++ []) e2.bytes ∙ append_one e2.front e2.back [] in
    let P129 : List ℕ → Type 0 = Follows (λ b. b == 129) in
    let r8 = optional_step 129 bit_strings refl (lit< tt) f.1.1.0 m7 e1.front (e1.back ++ []) string y k.w7 k.w8 at.issuer_unique_id e1.first.parts (at_front k.w7 m7 j1.back e1.front e1.back [] e1.bytes a7) (subst P129 (sym then8) (other_tag_if 129 130 bit_strings f.1.1.1.0 e2.front (e2.back ++ []) _ refl e2.first.field.spelled (other_tag_if 129 163 extensions f.1.1.1.1 e2.back [] _ refl e2.second.field.spelled tt))) k.t8 in
    let m8 = m7 + length e1.front in
    let r9 = optional_step 130 bit_strings refl (lit< tt) f.1.1.1.0 m8 e2.front (e2.back ++ []) string y k.w8 k.w9 at.subject_unique_id e2.first.parts (at_front k.w8 m8 e1.back e2.front e2.back [] e2.bytes (at_back k.w8 m7 e1.front e1.back [] r8.behind)) (other_tag_if 130 163 extensions f.1.1.1.1 e2.back [] _ refl e2.second.field.spelled tt) k.t9 in
    let m9 = m8 + length e2.front in
    let r10 = optional_step 163 extensions refl (lit< tt) f.1.1.1.1 m9 e2.back [] string y k.w9 k.w10 at.extensions e2.second.parts (at_back k.w9 m8 e2.front e2.back [] r9.behind) tt k.t10 in (
      record {
        version = r1.field;
        serial_number = r2.field;
        signature = r3.field;
        issuer = r4.field;
        validity = r5.field;
        subject = r6.field;
        subject_public_key_info = r7.field;
        issuer_unique_id = r8.field;
        subject_unique_id = r9.field;
        extensions = r10.field;
      },
      to_end k.w k.w10 (tbs_spans at) (tbs_passes at k) r10.behind.rest,
    )

pub walked_certificate : {A : Type 0} → IsElement (tbs_certificate {A = A}) → IsElement (algorithm {A = A}) → (at : CertificateFields) (outer : Walk) (k : CertificateWalk at outer) (v : CertificateOutline A) (string : List ℕ) (y : Tally) → CertificateAt v string y → outer.rest ≡ string → outer.at ≡ 0 → ((f : TbsFields A) (s : List ℕ) (z : Tally) → Stands tbs_inner f k.inner.at k.inner.rest s z → TbsFieldsIn f at.fields s z × ToEnd k.inner (tbs_spans at.fields)) → CertificateIn v at string y
walked_certificate {A} parts algorithms at outer k v string y a rest start fields =
    let i = whole_content 48 a.content string outer k.w refl (lit< tt) a.bytes rest start k.inside in
    let m = header a.content in
    let b0 : Before k.w m a.content [] = record { rest = i.0 ∙ sym (append-nil a.content); at = i.1 } in
    let f1 = at_front k.w m a.content a.signed a.signatures [] a.fields b0 in
    let r1 = field_step tbs_certificate parts v.tbs_certificate m a.signed (a.signatures ++ []) string y k.w k.w1 at.tbs_certificate a.signed_at.field f1 k.t1 in
    let j = a.signature_at.parts in
    let m1 = m + length a.signed in
    let f2 = at_front k.w1 m1 a.signatures j.front j.back [] j.bytes (at_back k.w1 m a.signed a.signatures [] r1.behind) in
    let r2 = field_step algorithm algorithms v.signature_algorithm m1 j.front (j.back ++ []) string y k.w1 k.w2 at.signature_algorithm j.first.field f2 k.t2 in
    let m2 = m1 + length j.front in
    let r3 = field_step (tagged 3 bit_strings) (tagged_element 3 bit_strings refl (lit< tt)) v.signature_value m2 j.back [] string y k.w2 k.w3 at.signature_value j.second.field (at_back k.w2 m1 j.front j.back [] r2.behind) k.t3 in
    let b = a.signed_at.parts in
    let s = b.parts in
    let n = k.within.content 48 s.content (a.signatures ++ []) (element_raw 48 s.content (element 48 s.content) refl (lit< tt) refl) (f1.rest ∙ ap (λ x. x ++ (a.signatures ++ [])) s.bytes) in
    let place : k.inner.at ≡ m + header s.content = n.1 ∙ ap (λ x. x + header s.content) i.1 in
    let St : ℕ → List ℕ → Type 0 = λ x p. Stands tbs_inner b.base x p string y in
    let st = subst (λ x. St x k.inner.rest) (sym place) (subst (St (m + header s.content)) (sym n.0) s.inner) in
    let inner = fields b.base string y st in
    let here : at.tbs_certificate.start ≡ m = k.t1.start ∙ i.1 in
    let P : TbsCertificateOutline A → Type 0 = λ w. TbsIn w at.fields string y in
    record {
      tbs_certificate = r1.field;
      fields = subst P (means_tbs b.base v.tbs_certificate b.kinds b.means).1.0 (record {
        version = b.base.0;
        version_means = refl;
        extensions = b.base.1.1.1.1;
        extensions_mean = refl;
        fields = inner.0;
      });
      signature_algorithm = r2.field;
      signature_value = r3.field;
      fill = fill_all string a.content (certificate_spans at) k.w a.bytes i.0 i.1 (to_end k.w k.w3 (certificate_spans at) (certificate_passes at outer k) r3.behind.rest);
      signed = fill_part string a.signed s.content y a.signed_at.field.tally m at.tbs_certificate (tbs_spans at.fields) k.inner a.signed_at.field.part here (k.t1.end ∙ r1.behind.at) s.bytes n.0 place inner.1;
    }

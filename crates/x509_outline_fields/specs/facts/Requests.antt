-- A walk over the outline of a request.
use Rattle.std.proofs.Common.{◌≡◌, ℕ, ◌+◌, List, [], ◌++◌, length, refl, sym, ap, ◌∙◌, subst, append-nil, lit<}
use Rattle.x509_der.specs.BitString.{bit_strings}
use Rattle.x509_der.specs.Element.{element, header}
use Rattle.x509_der.specs.Fields.{Stands}
use Rattle.x509_der.specs.Items.{items}
use Rattle.x509_der.specs.Shape.{IsElement}
use Rattle.x509_der.specs.SmallInteger.{small_integers}
use Rattle.x509_der.specs.Tagged.{tagged}
use Rattle.x509_der.specs.Tally.{Tally}
use Rattle.x509_der.specs.laws.Tagged.{tagged_element}
use Rattle.x509_outline_parts.specs.Algorithms.{algorithm}
use Rattle.x509_outline_parts.specs.AttributeValues.{attribute_values, attributes_field}
use Rattle.x509_outline_parts.specs.Names.{name}
use Rattle.x509_outline_parts.specs.PublicKeys.{public_key}
use Rattle.x509_more_outlines.specs.Requests.{InfoFields, info_inner, info_parts, request_info, RequestAt}
use Rattle.x509_more_outlines.specs.declared.request_outline.RequestOutline.{RequestOutline}
use Rattle.x509_fields.specs.Requests.{info_spans, request_spans}
use Rattle.x509_outline_fields.specs.Requests.{InfoFieldsIn, RequestIn}
use Rattle.x509_fields.specs.Walks.{Walk, ToEnd}
use Rattle.x509_fields.specs.declared.request.CertificationRequestInfoFields.{CertificationRequestInfoFields}
use Rattle.x509_fields.specs.declared.request.CertificationRequestFields.{CertificationRequestFields}
use Rattle.x509_fields.specs.facts.Chains.{to_end, fill_all, fill_part}
use Rattle.x509_fields.specs.facts.Requests.{InfoWalk, info_passes, RequestWalk, request_passes}
use Rattle.x509_fields.specs.facts.Fields.{Before, at_front, at_back, field_step, element_raw, whole_content}

pub walked_info : {A : Type 0} → IsElement (name {A = A}) → IsElement (public_key {A = A}) → (at : CertificationRequestInfoFields) (k : InfoWalk at) (f : InfoFields A) (string : List ℕ) (y : Tally) → Stands info_inner f k.w.at k.w.rest string y → InfoFieldsIn f at string y × ToEnd k.w (info_spans at)
walked_info names keys at k f string y st =
    let j0 = st.parts in
    let j1 = j0.second.parts in
    let j2 = j1.second.parts in
    let b0 : Before k.w k.w.at k.w.rest [] = record { rest = sym (append-nil k.w.rest); at = refl } in
    let r1 = field_step (tagged 2 small_integers) (tagged_element 2 small_integers refl (lit< tt)) f.0 k.w.at j0.front (j0.back ++ []) string y k.w k.w1 at.version j0.first.field (at_front k.w k.w.at k.w.rest j0.front j0.back [] j0.bytes b0) k.t1 in
    let m1 = k.w.at + length j0.front in
    let r2 = field_step name names f.1.0 m1 j1.front (j1.back ++ []) string y k.w1 k.w2 at.subject j1.first.field (at_front k.w1 m1 j0.back j1.front j1.back [] j1.bytes (at_back k.w1 k.w.at j0.front j0.back [] r1.behind)) k.t2 in
    let m2 = m1 + length j1.front in
    let r3 = field_step public_key keys f.1.1.0 m2 j2.front (j2.back ++ []) string y k.w2 k.w3 at.subject_public_key_info j2.first.field (at_front k.w2 m2 j1.back j2.front j2.back [] j2.bytes (at_back k.w2 m1 j1.front j1.back [] r2.behind)) k.t3 in
    let m3 = m2 + length j2.front in
    let r4 = field_step attributes_field (tagged_element 160 (items attribute_values) refl (lit< tt)) f.1.1.1 m3 j2.back [] string y k.w3 k.w4 at.attributes j2.second.field (at_back k.w3 m2 j2.front j2.back [] r3.behind) k.t4 in
    (record { version = r1.field; subject = r2.field; subject_public_key_info = r3.field; attributes = r4.field }, to_end k.w k.w4 (info_spans at) (info_passes at k) r4.behind.rest)

pub walked_request : {A : Type 0} → IsElement (request_info {A = A}) → IsElement (algorithm {A = A}) → (at : CertificationRequestFields) (outer : Walk) (k : RequestWalk at outer) (v : RequestOutline A) (string : List ℕ) (y : Tally) → RequestAt v string y → outer.rest ≡ string → outer.at ≡ 0 → ((f : InfoFields A) (s : List ℕ) (z : Tally) → Stands info_inner f k.inner.at k.inner.rest s z → InfoFieldsIn f at.fields s z × ToEnd k.inner (info_spans at.fields)) → RequestIn v at string y
walked_request {A} parts algorithms at outer k v string y a rest start fields =
    let i = whole_content 48 a.content string outer k.w refl (lit< tt) a.bytes rest start k.inside in
    let m = header a.content in
    let b0 : Before k.w m a.content [] = record { rest = i.0 ∙ sym (append-nil a.content); at = i.1 } in
    let f1 = at_front k.w m a.content a.signed a.signatures [] a.fields b0 in
    let r1 = field_step request_info parts v.certification_request_info m a.signed (a.signatures ++ []) string y k.w k.w1 at.certification_request_info a.signed_at.field f1 k.t1 in
    let j = a.signature_at.parts in
    let m1 = m + length a.signed in
    let f2 = at_front k.w1 m1 a.signatures j.front j.back [] j.bytes (at_back k.w1 m a.signed a.signatures [] r1.behind) in
    let r2 = field_step algorithm algorithms v.signature_algorithm m1 j.front (j.back ++ []) string y k.w1 k.w2 at.signature_algorithm j.first.field f2 k.t2 in
    let m2 = m1 + length j.front in
    let r3 = field_step (tagged 3 bit_strings) (tagged_element 3 bit_strings refl (lit< tt)) v.signature m2 j.back [] string y k.w2 k.w3 at.signature j.second.field (at_back k.w2 m1 j.front j.back [] r2.behind) k.t3 in
    let s = a.signed_at.parts in
    let n = k.within.content 48 s.content (a.signatures ++ []) (element_raw 48 s.content (element 48 s.content) refl (lit< tt) refl) (f1.rest ∙ ap (λ x. x ++ (a.signatures ++ [])) s.bytes) in
    let place : k.inner.at ≡ m + header s.content = n.1 ∙ ap (λ x. x + header s.content) i.1 in
    let St : ℕ → List ℕ → Type 0 = λ x p. Stands info_inner (info_parts v.certification_request_info) x p string y in
    let st = subst (λ x. St x k.inner.rest) (sym place) (subst (St (m + header s.content)) (sym n.0) s.inner) in
    let inner = fields (info_parts v.certification_request_info) string y st in
    let here : at.certification_request_info.start ≡ m = k.t1.start ∙ i.1 in
    record {
      certification_request_info = r1.field;
      fields = inner.0;
      signature_algorithm = r2.field;
      signature = r3.field;
      fill = fill_all string a.content (request_spans at) k.w a.bytes i.0 i.1 (to_end k.w k.w3 (request_spans at) (request_passes at outer k) r3.behind.rest);
      signed = fill_part string a.signed s.content y a.signed_at.field.tally m at.certification_request_info (info_spans at.fields) k.inner a.signed_at.field.part here (k.t1.end ∙ r1.behind.at) s.bytes n.0 place inner.1;
    }

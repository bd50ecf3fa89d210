-- The fields of a request's attribute, which are walked over.
use Rattle.std.proofs.Common.{◌≡◌, ℕ, ◌+◌, List, [], ◌++◌, length, refl, sym, ap, ◌∙◌, arith, append-nil, lit<}
use Rattle.x509_der.specs.Element.{IsRaw, element, header}
use Rattle.x509_der.specs.Fields.{Stands}
use Rattle.x509_der.specs.Items.{items}
use Rattle.x509_der.specs.ObjectIdentifier.{oids}
use Rattle.x509_der.specs.PrimitiveContent.{octets}
use Rattle.x509_der.specs.Tagged.{tagged, ContentAt}
use Rattle.x509_der.specs.Tally.{Tally}
use Rattle.x509_der.specs.facts.Element.{element_one, element_length}
use Rattle.x509_der.specs.laws.Tagged.{tagged_element}
use Rattle.x509_prim.specs.Times.{utc_times}
use Rattle.picky_asn1_x509_parts.specs.Attribute.{attribute, by_kind, kind_of}
use Rattle.picky_asn1_x509_parts.specs.ExtensionLists.{extensions}
use Rattle.picky_asn1_x509_parts.specs.declared.attribute.Attribute.{Attribute}
use Rattle.picky_asn1_x509_parts.specs.declared.attribute.AttributeKind.{AttributeKind}
use Rattle.picky_asn1_x509_parts.specs.declared.attribute.AttributeKind.TheVariants as kinds
use Rattle.picky_asn1_x509_parts.specs.declared.attribute.AttributeValues.{AttributeValues}
use Rattle.x509_fields.specs.declared.span.Span.{Span}
use Rattle.x509_values.specs.Rests.{Rest}
use Rattle.x509_values.specs.Elements.{Finds, span_of}
use Rattle.x509_values.specs.declared.elements.Element.{Element}
use Rattle.x509_values.proofs.Telling.{held_in}
use Rattle.x509_flat_values.specs.Requests.{RequestAttributeTold}
use Rattle.x509_flat_values.specs.declared.request_attributes.RequestAttributePlace.{RequestAttributePlace}

-- the values of each kind are one element
values_raw : {A : Type 0} (k : AttributeKind) (v : AttributeValues A) (p : List ℕ) (y : Tally) → (by_kind k).spelled v p y → IsRaw p
values_raw {A} kinds.Extensions v p y h = (tagged_element 49 (items (extensions {A = A})) refl (lit< tt)).one h.payload p y h.spelled
values_raw kinds.ContentType v p y h = (tagged_element 49 (items (tagged 6 oids)) refl (lit< tt)).one h.payload p y h.spelled
values_raw kinds.SpcStatementType v p y h = (tagged_element 49 (items (tagged 48 (items (tagged 6 oids)))) refl (lit< tt)).one h.payload p y h.spelled
values_raw kinds.MessageDigest v p y h = (tagged_element 49 (items (tagged 4 octets)) refl (lit< tt)).one h.payload p y h.spelled
values_raw kinds.SigningTime v p y h = (tagged_element 49 (items (tagged 23 utc_times)) refl (lit< tt)).one h.payload p y h.spelled
values_raw kinds.Custom v p y h = h.spelled.is

pub attribute_told : {A : Type 0} (string : List ℕ) (whole : Tally) (v : Attribute A) (n : ℕ) (slice : List ℕ) (item : Element) (w1 w2 : Rest) (e f : Element) (at : RequestAttributePlace) →
    (h : Stands attribute v n slice string whole) → slice ≡ element item.tag item.inside.rest → item.inside.at ≡ n + header item.inside.rest →
    Finds item.inside w1 e → Finds w1 w2 f →
    at.identifier ≡ span_of e.inside → at.tag ≡ f.tag → at.values ≡ span_of f.inside →
    RequestAttributeTold string whole v n slice at
attribute_told string whole v n slice item w1 w2 e f at h bytes place first second id tag values =
    let w = item.inside in
    let k = h.parts in
    let j = k.inner.parts in
    let a : ContentAt 6 oids v.ty (n + header k.content) j.front string whole = j.first.parts in
    let same = element_one 48 item.tag k.content w.rest [] [] (ap (λ x. x ++ []) (sym k.bytes ∙ bytes)) in
    let m : w.at ≡ n + header k.content = omega (arith, place, ap header same.content) in
    let r1 = first 6 a.content j.back refl (sym same.content ∙ j.bytes ∙ ap (λ x. x ++ j.back) a.bytes) in
    let raw = values_raw (kind_of v.ty) v.value j.back j.second.field.tally j.second.field.spelled in
    let r2 = second raw.tag raw.content [] raw.fits (r1.rest ∙ raw.bytes ∙ sym (append-nil (element raw.tag raw.content))) in
    let l : w1.at ≡ (n + header k.content) + length j.front = omega (arith, r1.behind, m, ap length a.bytes, element_length 6 a.content) in
    record {
      content = k.content;
      types = j.front;
      sets = j.back;
      bytes = k.bytes;
      fields = j.bytes;
      type_at = j.first.field;
      values_at = j.second.field;
      identifier = held_in 6 a.content j.front (n + header k.content) e.inside at.identifier a.bytes r1.content (r1.at ∙ ap (λ x. x + header a.content) m) id;
      values = held_in at.tag raw.content j.back ((n + header k.content) + length j.front) f.inside at.values (raw.bytes ∙ ap (λ x. element x raw.content) (sym (tag ∙ r2.tag))) r2.content (r2.at ∙ ap (λ x. x + header raw.content) l) values;
    }

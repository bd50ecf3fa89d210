-- The first fields of a SEQUENCE, which are walked over.
use Rattle.std.proofs.Common.{◌≡◌, ℕ, ◌+◌, List, [], ◌++◌, length, refl, sym, ap, ◌∙◌, arith, append-nil}
use Rattle.x509_der.specs.Element.{IsRaw, element, header}
use Rattle.x509_der.specs.Fields.{Stands}
use Rattle.x509_der.specs.ObjectIdentifier.{oids}
use Rattle.x509_der.specs.Shape.{IsElement}
use Rattle.x509_der.specs.Tagged.{ContentAt}
use Rattle.x509_der.specs.Tally.{Tally}
use Rattle.x509_der.specs.facts.Element.{element_one, element_length}
use Rattle.x509_fields.specs.declared.span.Span.{Span}
use Rattle.x509_names.specs.GeneralNames.{general_name}
use Rattle.x509_more_extensions.specs.AccessDescription.{access_description}
use Rattle.x509_more_extensions.specs.declared.structures.access_description.AccessDescription.{AccessDescription}
use Rattle.x509_policies.specs.PolicyInformation.{policy_information}
use Rattle.x509_policies.specs.declared.structures.policy_information.PolicyInformation.{PolicyInformation}
use Rattle.x509_values.specs.Rests.{Rest}
use Rattle.x509_values.specs.Elements.{Finds, span_of}
use Rattle.x509_values.specs.declared.elements.Element.{Element}
use Rattle.x509_values.proofs.Telling.{held_in}
use Rattle.x509_flat_values.specs.Accesses.{AccessTold}
use Rattle.x509_flat_values.specs.Policies.{PolicyTold}
use Rattle.x509_flat_values.specs.declared.accesses.AccessPlace.{AccessPlace}

pub access_told : {A : Type 0} → IsElement (general_name {A = A}) → (string : List ℕ) (whole : Tally) (v : AccessDescription A) (n : ℕ) (slice : List ℕ) (item : Element) (w1 w2 : Rest) (e f : Element) (at : AccessPlace) →
    (h : Stands access_description v n slice string whole) → slice ≡ element item.tag item.inside.rest → item.inside.at ≡ n + header item.inside.rest →
    Finds item.inside w1 e → Finds w1 w2 f →
    at.method ≡ span_of e.inside → at.location.tag ≡ f.tag → at.location.content ≡ span_of f.inside →
    AccessTold string whole v n slice at
access_told el string whole v n slice item w1 w2 e f at h bytes place first second method tag location =
    let w = item.inside in
    let k = h.parts in
    let j = k.inner.parts in
    let a : ContentAt 6 oids v.access_method (n + header k.content) j.front string whole = j.first.parts in
    let same = element_one 48 item.tag k.content w.rest [] [] (ap (λ x. x ++ []) (sym k.bytes ∙ bytes)) in
    let m : w.at ≡ n + header k.content = omega (arith, place, ap header same.content) in
    let r1 = first 6 a.content j.back refl (sym same.content ∙ j.bytes ∙ ap (λ x. x ++ j.back) a.bytes) in
    let raw = el.one v.access_location j.back j.second.field.tally j.second.field.spelled in
    let r2 = second raw.tag raw.content [] raw.fits (r1.rest ∙ raw.bytes ∙ sym (append-nil (element raw.tag raw.content))) in
    let l : w1.at ≡ (n + header k.content) + length j.front = omega (arith, r1.behind, m, ap length a.bytes, element_length 6 a.content) in
    record {
      content = k.content;
      methods = j.front;
      locations = j.back;
      bytes = k.bytes;
      fields = j.bytes;
      method_at = j.first.field;
      method = held_in 6 a.content j.front (n + header k.content) e.inside at.method a.bytes r1.content (r1.at ∙ ap (λ x. x + header a.content) m) method;
      location = record {
        here = j.second.field;
        content = held_in at.location.tag raw.content j.back ((n + header k.content) + length j.front) f.inside at.location.content (raw.bytes ∙ ap (λ x. element x raw.content) (sym (tag ∙ r2.tag))) r2.content (r2.at ∙ ap (λ x. x + header raw.content) l) location;
      };
    }

pub policy_told : {A : Type 0} (string : List ℕ) (whole : Tally) (v : PolicyInformation A) (n : ℕ) (slice : List ℕ) (item : Element) (w1 : Rest) (e : Element) (at : Span) →
    (h : Stands policy_information v n slice string whole) → slice ≡ element item.tag item.inside.rest → item.inside.at ≡ n + header item.inside.rest →
    Finds item.inside w1 e → at ≡ span_of e.inside →
    PolicyTold string whole v n slice at
policy_told string whole v n slice item w1 e at h bytes place first is =
    let w = item.inside in
    let k = h.parts in
    let j = k.inner.parts in
    let a : ContentAt 6 oids v.policy_identifier (n + header k.content) j.front string whole = j.first.parts in
    let same = element_one 48 item.tag k.content w.rest [] [] (ap (λ x. x ++ []) (sym k.bytes ∙ bytes)) in
    let m : w.at ≡ n + header k.content = omega (arith, place, ap header same.content) in
    let r1 = first 6 a.content j.back refl (sym same.content ∙ j.bytes ∙ ap (λ x. x ++ j.back) a.bytes) in
    record {
      content = k.content;
      identifiers = j.front;
      qualifiers = j.back;
      bytes = k.bytes;
      fields = j.bytes;
      identifier_at = j.first.field;
      identifier = held_in 6 a.content j.front (n + header k.content) e.inside at a.bytes r1.content (r1.at ∙ ap (λ x. x + header a.content) m) is;
    }

-- The purposes of an extended key usage, as far as they are told.
use Rattle.std.proofs.Common.{◌≡◌, ℕ, ◌+◌, List, [], ◌++◌, length, refl, sym, ap, ◌∙◌, append-nil}
use Rattle.x509_der.specs.Element.{element, header}
use Rattle.x509_der.specs.Fields.{Stands}
use Rattle.x509_der.specs.Items.{items}
use Rattle.x509_der.specs.Shape.{Lawful}
use Rattle.x509_der.specs.Tagged.{ContentAt}
use Rattle.x509_der.specs.Tally.{Tally}
use Rattle.x509_der.specs.facts.Element.{element_one}
use Rattle.x509_fields.specs.Spans.{FieldIn}
use Rattle.x509_fields.specs.declared.span.Span.{Span}
use Rattle.x509_values.specs.Rests.{Rest}
use Rattle.x509_values.specs.Elements.{Finds, Over, span_of}
use Rattle.picky_asn1_x509.specs.ExtendedKeyUsage.{extended_key_usage, key_purpose}
use Rattle.x509_values.specs.Purposes.{PurposeTold, PurposesTold}
use Rattle.x509_values.specs.Told.{EachTold, Fills, Parted, filled}
use Rattle.x509_values.specs.declared.elements.Element.{Element}
use Rattle.x509_values.specs.facts.Values.{covered}
use Rattle.x509_values.proofs.Telling.{held_in}

pub purpose_told : (string : List ℕ) (whole : Tally) (v : List ℕ) (n : ℕ) (slice : List ℕ) (e : Element) (at : Span) → Stands key_purpose v n slice string whole → slice ≡ element e.tag e.inside.rest → e.inside.at ≡ n + header e.inside.rest → at ≡ span_of e.inside → PurposeTold string whole v n slice at
purpose_told string whole v n slice e at h bytes place is =
    let i = h.field.spelled in
    let k = element_one 6 e.tag i.content e.inside.rest [] [] (ap (λ x. x ++ []) (sym i.bytes ∙ bytes)) in
    record {
      here = h.field;
      content = held_in 6 e.inside.rest slice n e.inside at (bytes ∙ ap (λ t. element t e.inside.rest) (sym k.tag)) refl place is;
    }

-- the content of the list that a span covers
pub record ListContent (v : List (List ℕ)) (span : Span) (slice string : List ℕ) (whole : Tally) (items_in : Rest) : Type 0 where
  pub list : ContentAt 48 (items key_purpose) v span.start slice string whole
  pub rest : items_in.rest ≡ list.content
  pub at : items_in.at ≡ span.start + header list.content

pub list_content_at : Lawful extended_key_usage → (v : List (List ℕ)) (span : Span) (string : List ℕ) (whole : Tally) (f : FieldIn extended_key_usage v span string whole) (w w1 : Rest) (e : Element) → Over string span w → Finds w w1 e → ListContent v span f.slice string whole e.inside
list_content_at l v span string whole f w w1 e over finds =
    let k : ContentAt 48 (items key_purpose) v span.start f.slice string whole = l.parts v f.slice f.at.tally f.at.spelled span.start string whole f.at.part in
    let o = over f.slice (covered extended_key_usage v span string whole f) in
    let r = finds 48 k.content [] refl (o.0 ∙ k.bytes ∙ sym (append-nil (element 48 k.content))) in
    record { list = k; rest = r.content; at = r.at ∙ ap (λ x. x + header k.content) o.1 }

pub purposes_told : (v : List (List ℕ)) (span : Span) (slice string : List ℕ) (whole : Tally) (items_in : Rest) (k : ListContent v span slice string whole items_in) (old new : List Span) (count : ℕ) →
    Fills (λ places. Parted (λ p. p ≡ []) (EachTold key_purpose string whole (PurposeTold string whole) v (span.start + header k.list.content) k.list.content k.list.inner.parts) places) old new count →
    Fills (PurposesTold v span.start slice string whole) old new count
purposes_told v span slice string whole items_in k old new count f =
    let t = f.told in
    let all : f.places ≡ t.back = t.parts ∙ ap (λ x. x ++ t.back) t.first in
    record {
      places = t.back;
      told = record { list = k.list; each = t.more };
      written = f.written ∙ ap (λ x. filled x old) all;
      count = f.count ∙ ap length all;
    }

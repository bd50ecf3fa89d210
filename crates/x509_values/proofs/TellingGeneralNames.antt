-- The general names of a list, as far as they are told.
use Rattle.std.proofs.Common.{◌≡◌, ℕ, ◌+◌, List, [], ◌++◌, length, refl, sym, ap, ◌∙◌, append-nil}
use Rattle.x509_der.specs.Element.{element, header}
use Rattle.x509_der.specs.Fields.{Stands}
use Rattle.x509_der.specs.Items.{items}
use Rattle.x509_der.specs.Shape.{Lawful}
use Rattle.x509_der.specs.Tagged.{ContentAt}
use Rattle.x509_der.specs.Tally.{Tally}
use Rattle.x509_names.specs.GeneralNames.{general_name}
use Rattle.x509_names.specs.declared.general_name.GeneralName.{GeneralName}
use Rattle.x509_fields.specs.Spans.{FieldIn}
use Rattle.x509_fields.specs.declared.span.Span.{Span}
use Rattle.x509_values.specs.Rests.{Rest}
use Rattle.x509_values.specs.Elements.{Finds, Over, span_of}
use Rattle.x509_values.specs.GeneralNames.{general_names, GeneralNameTold, NamesTold}
use Rattle.x509_values.specs.Told.{EachTold, Fills, Parted, filled}
use Rattle.x509_values.specs.declared.elements.Element.{Element}
use Rattle.x509_values.specs.declared.general_names.GeneralNamePlace.{GeneralNamePlace}
use Rattle.x509_values.specs.facts.Values.{covered}
use Rattle.x509_values.proofs.Telling.{held_in}

pub name_told : {A : Type 0} (string : List ℕ) (whole : Tally) (v : GeneralName A) (n : ℕ) (slice : List ℕ) (e : Element) (at : GeneralNamePlace) → Stands general_name v n slice string whole → slice ≡ element e.tag e.inside.rest → e.inside.at ≡ n + header e.inside.rest → at.tag ≡ e.tag → at.content ≡ span_of e.inside → GeneralNameTold string whole v n slice at
name_told string whole v n slice e at h bytes place tag content = record {
  here = h.field;
  content = held_in at.tag e.inside.rest slice n e.inside at.content (bytes ∙ ap (λ t. element t e.inside.rest) (sym tag)) refl place content;
}

-- the content of the list that a span covers
pub record ListContent {A : Type 0} (v : List (GeneralName A)) (span : Span) (slice string : List ℕ) (whole : Tally) (names : Rest) : Type 0 where
  pub list : ContentAt 48 (items general_name) v span.start slice string whole
  pub rest : names.rest ≡ list.content
  pub at : names.at ≡ span.start + header list.content

pub list_content_at : {A : Type 0} → Lawful (general_names {A = A}) → (v : List (GeneralName A)) (span : Span) (string : List ℕ) (whole : Tally) (f : FieldIn general_names v span string whole) (w w1 : Rest) (e : Element) → Over string span w → Finds w w1 e → ListContent v span f.slice string whole e.inside
list_content_at l v span string whole f w w1 e over finds =
    let k : ContentAt 48 (items general_name) v span.start f.slice string whole = l.parts v f.slice f.at.tally f.at.spelled span.start string whole f.at.part in
    let o = over f.slice (covered general_names v span string whole f) in
    let r = finds 48 k.content [] refl (o.0 ∙ k.bytes ∙ sym (append-nil (element 48 k.content))) in
    record { list = k; rest = r.content; at = r.at ∙ ap (λ x. x + header k.content) o.1 }

pub names_told : {A : Type 0} (v : List (GeneralName A)) (span : Span) (slice string : List ℕ) (whole : Tally) (names : Rest) (k : ListContent v span slice string whole names) (old new : List GeneralNamePlace) (count : ℕ) →
    Fills (λ places. Parted (λ p. p ≡ []) (EachTold general_name string whole (GeneralNameTold string whole) v (span.start + header k.list.content) k.list.content k.list.inner.parts) places) old new count →
    Fills (NamesTold v span.start slice string whole) old new count
names_told v span slice string whole names k old new count f =
    let t = f.told in
    let all : f.places ≡ t.back = t.parts ∙ ap (λ x. x ++ t.back) t.first in
    record {
      places = t.back;
      told = record { list = k.list; names = t.more };
      written = f.written ∙ ap (λ x. filled x old) all;
      count = f.count ∙ ap length all;
    }

-- The items of a list, as far as they are told.
use Rattle.std.proofs.Common.{◌≡◌, true, ℕ, ◌+◌, List, [], ◌++◌, length, refl, sym, ap, ◌∙◌, append-nil}
use Rattle.x509_der.specs.Element.{element, header, is_tag}
use Rattle.x509_der.specs.Items.{ItemsAt, items}
use Rattle.x509_der.specs.Shape.{Shape, Lawful, IsElement}
use Rattle.x509_der.specs.Tagged.{tagged, ContentAt}
use Rattle.x509_der.specs.Tally.{Tally}
use Rattle.x509_der.specs.laws.Items.{items_lawful}
use Rattle.x509_der.specs.laws.NotEmpty.{full}
use Rattle.x509_der.specs.laws.Tagged.{tagged_lawful}
use Rattle.x509_fields.specs.Spans.{FieldIn}
use Rattle.x509_fields.specs.declared.span.Span.{Span}
use Rattle.x509_values.specs.Rests.{Rest}
use Rattle.x509_values.specs.Elements.{Finds, Over}
use Rattle.x509_values.specs.Told.{EachTold, Fills, Parted, filled}
use Rattle.x509_values.specs.declared.elements.Element.{Element}
use Rattle.x509_values.specs.facts.Values.{covered}
use Rattle.x509_flat_values.specs.Lists.{ListTold, Telling}

-- the content of the list that a span covers
pub record ListContent {V : Type 0} (t : ℕ) (s : Shape V) (v : List V) (span : Span) (slice string : List ℕ) (whole : Tally) (items_in : Rest) : Type 0 where
  pub list : ContentAt t (items s) v span.start slice string whole
  pub rest : items_in.rest ≡ list.content
  pub at : items_in.at ≡ span.start + header list.content

pub list_content_at : {V : Type 0} (t : ℕ) (s : Shape V) → is_tag t ≡ true → Lawful s → IsElement s → (v : List V) (span : Span) (string : List ℕ) (whole : Tally) (f : FieldIn (tagged t (items s)) v span string whole) (w w1 : Rest) (e : Element) → Over string span w → Finds w w1 e → ListContent t s v span f.slice string whole e.inside
list_content_at t s fits lawful element_of v span string whole f w w1 e over finds =
    let l : Lawful (tagged t (items s)) = tagged_lawful t (items s) (items_lawful s lawful (full s element_of) element_of.free) in
    let k : ContentAt t (items s) v span.start f.slice string whole = l.parts v f.slice f.at.tally f.at.spelled span.start string whole f.at.part in
    let o = over f.slice (covered (tagged t (items s)) v span string whole f) in
    let r = finds t k.content [] fits (o.0 ∙ k.bytes ∙ sym (append-nil (element t k.content))) in
    record { list = k; rest = r.content; at = r.at ∙ ap (λ x. x + header k.content) o.1 }

-- nothing was told before
pub all_told : {V P : Type 0} (s : Shape V) (string : List ℕ) (whole : Tally) (Tells : V → ℕ → List ℕ → P → Type 0) (vs : List V) (n : ℕ) (slice : List ℕ) (h : ItemsAt s string whole vs n slice) (old new : List P) (count : ℕ) →
    Fills (λ places. Parted (λ p. p ≡ []) (EachTold s string whole Tells vs n slice h) places) old new count → Fills (EachTold s string whole Tells vs n slice h) old new count
all_told s string whole Tells vs n slice h old new count f =
    let t = f.told in
    let all : f.places ≡ t.back = t.parts ∙ ap (λ x. x ++ t.back) t.first in
    record { places = t.back; told = t.more; written = f.written ∙ ap (λ x. filled x old) all; count = f.count ∙ ap length all }

pub items_told : {V P : Type 0} (t : ℕ) (s : Shape V) (tells : Telling V P) (v : List V) (span : Span) (slice string : List ℕ) (whole : Tally) (items_in : Rest) (k : ListContent t s v span slice string whole items_in) (old new : List P) (count : ℕ) →
    Fills (EachTold s string whole (tells string whole) v (span.start + header k.list.content) k.list.content k.list.inner.parts) old new count →
    Fills (ListTold t s tells v span.start slice string whole) old new count
items_told t s tells v span slice string whole items_in k old new count f = record {
  places = f.places;
  told = record { list = k.list; each = f.told };
  written = f.written;
  count = f.count;
}

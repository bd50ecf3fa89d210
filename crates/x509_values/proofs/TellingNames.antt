-- The attributes of a name, as far as they are told.
use Rattle.std.proofs.Common.{◌≡◌, ℕ, ◌+◌, List, [], ◌∷◌, ◌++◌, length, refl, sym, ap, ◌∙◌, arith, subst, lit<, append-nil, append_assoc}
use Rattle.x509_der.specs.Element.{IsRaw, element, header}
use Rattle.x509_der.specs.Fields.{Stands}
use Rattle.x509_der.specs.Items.{ItemsAt}
use Rattle.x509_der.specs.ObjectIdentifier.{oids}
use Rattle.x509_der.specs.Reading.{NoFirst}
use Rattle.x509_der.specs.Shape.{Lawful, IsElement}
use Rattle.x509_der.specs.Tagged.{ContentAt}
use Rattle.x509_der.specs.Tally.{Tally}
use Rattle.x509_der.specs.facts.Element.{element_one, element_length}
use Rattle.x509_der.specs.laws.Tagged.{tagged_element}
use Rattle.x509_prim.specs.CharSets.{are_ascii}
use Rattle.x509_prim.specs.Texts.{Passes as Allows, texts}
use Rattle.x509_names.specs.DirectoryStrings.{directory_string}
use Rattle.x509_names.specs.Attributes.{attribute, attribute_parts, attribute_inner, by_kind, kind_of}
use Rattle.x509_names.specs.Names.{Set, Sets, name, name_content, relative_name}
use Rattle.x509_names.specs.declared.attribute_value.AttributeKind.{AttributeKind}
use Rattle.x509_names.specs.declared.attribute_value.AttributeKind.TheVariants as kind
use Rattle.x509_names.specs.declared.attribute_value.AttributeTypeAndValueParameters.{AttributeTypeAndValueParameters}
use Rattle.x509_names.specs.declared.attribute_type_and_value.AttributeTypeAndValue.{AttributeTypeAndValue}
use Rattle.x509_fields.specs.Spans.{FieldIn}
use Rattle.x509_fields.specs.declared.span.Span.{Span}
use Rattle.x509_values.specs.Rests.{Rest}
use Rattle.x509_values.specs.Elements.{Passes, Finds, Over, span_of}
use Rattle.x509_values.specs.Told.{Fills, filled}
use Rattle.x509_values.specs.Names.{AttributeTold, SetsTold, NameTold, PutsSet}
use Rattle.x509_values.specs.declared.attributes.AttributePlace.{AttributePlace}
use Rattle.x509_values.specs.declared.elements.Element.{Element}
use Rattle.x509_values.proofs.Telling.{held_in, in_front, empty_front}

-- the value of each kind is one element
by_kind_raw : {A : Type 0} → IsElement (directory_string {A = A}) → (k : AttributeKind) (v : AttributeTypeAndValueParameters A) (p : List ℕ) (y : Tally) → (by_kind k).spelled v p y → IsRaw p
by_kind_raw el (kind.Text a) v p y h = el.one h.payload p y h.spelled
by_kind_raw el kind.Email v p y h = (tagged_element 22 (texts (Allows are_ascii)) refl (lit< tt)).one h.payload p y h.spelled
by_kind_raw el kind.Other v p y h = h.spelled.is

-- an attribute is one element
pub attribute_raw : {A : Type 0} (v : AttributeTypeAndValue A) (p : List ℕ) (y : Tally) → attribute.spelled v p y → IsRaw p
attribute_raw v p y h = (tagged_element 48 attribute_inner refl (lit< tt)).one (attribute_parts v) p y h

-- the two fields of an attribute, which are walked over
pub attribute_told : {A : Type 0} → IsElement (directory_string {A = A}) → (number : ℕ) (string : List ℕ) (whole : Tally) (v : AttributeTypeAndValue A) (n t : ℕ) (slice : List ℕ) (w w1 w2 : Rest) (e f : Element) (at : AttributePlace) →
    (h : Stands attribute v n slice string whole) → slice ≡ element t w.rest → w.at ≡ n + header w.rest →
    Finds w w1 e → Finds w1 w2 f →
    at.set ≡ number → at.identifier ≡ span_of e.inside → at.tag ≡ f.tag → at.value ≡ span_of f.inside →
    AttributeTold number string whole v n slice at
attribute_told el number string whole v n t slice w w1 w2 e f at h bytes place first second set id tag value =
    let k = h.parts in
    let j = k.inner.parts in
    let a : ContentAt 6 oids v.ty (n + header k.content) j.front string whole = j.first.parts in
    let same = element_one 48 t k.content w.rest [] [] (ap (λ x. x ++ []) (sym k.bytes ∙ bytes)) in
    let m : w.at ≡ n + header k.content = omega (arith, place, ap header same.content) in
    let r1 = first 6 a.content j.back refl (sym same.content ∙ j.bytes ∙ ap (λ x. x ++ j.back) a.bytes) in
    let raw = by_kind_raw el (kind_of v.ty) v.value j.back j.second.field.tally j.second.field.spelled in
    let r2 = second raw.tag raw.content [] raw.fits (r1.rest ∙ raw.bytes ∙ sym (append-nil (element raw.tag raw.content))) in
    let l : w1.at ≡ (n + header k.content) + length j.front = omega (arith, r1.behind, m, ap length a.bytes, element_length 6 a.content) in
    record {
      content = k.content;
      types = j.front;
      values = j.back;
      bytes = k.bytes;
      fields = j.bytes;
      type_at = j.first.field;
      value_at = j.second.field;
      set = set;
      identifier = held_in 6 a.content j.front (n + header k.content) e.inside at.identifier a.bytes r1.content (r1.at ∙ ap (λ x. x + header a.content) m) id;
      value = held_in at.tag raw.content j.back ((n + header k.content) + length j.front) f.inside at.value (raw.bytes ∙ ap (λ x. element x raw.content) (sym (tag ∙ r2.tag))) r2.content (r2.at ∙ ap (λ x. x + header raw.content) l) value;
    }

-- the attributes of some sets are told, and the others are left
pub record SetsGone {A : Type 0} (string : List ℕ) (whole : Tally) (sets : Sets A) (n : ℕ) (slice : List ℕ) (h : ItemsAt relative_name string whole sets n slice) (base : List AttributePlace) (now : Rest) (out : List AttributePlace) (size number : ℕ) : Type 0 where
  pub left : Sets A
  pub place : ℕ
  pub bytes : List ℕ
  pub at : now.at ≡ place
  pub rest : now.rest ≡ bytes
  pub items : ItemsAt relative_name string whole left place bytes
  pub mine : List AttributePlace
  pub told : (more : List AttributePlace) → SetsTold number string whole left place bytes items more → SetsTold 0 string whole sets n slice h (mine ++ more)
  pub written : out ≡ filled mine base
  pub count : size ≡ length mine

pub none_gone : {A : Type 0} (string : List ℕ) (whole : Tally) (sets : Sets A) (n : ℕ) (slice : List ℕ) (h : ItemsAt relative_name string whole sets n slice) (base : List AttributePlace) (now : Rest) → now.rest ≡ slice → now.at ≡ n → SetsGone string whole sets n slice h base now base 0 0
none_gone string whole sets n slice h base now rest at = record {
  left = sets;
  place = n;
  bytes = slice;
  at = at;
  rest = rest;
  items = h;
  mine = [];
  told = λ more t. t;
  written = refl;
  count = refl;
}

set_raw : {A : Type 0} (set : Set A) (p : List ℕ) (y : Tally) → relative_name.spelled set p y → IsRaw p
set_raw set p y h = record { tag = 49; content = h.content; fits = refl; byte = lit< tt; bytes = h.bytes }

more_gone : {A : Type 0} (string : List ℕ) (whole : Tally) (sets : Sets A) (n : ℕ) (slice : List ℕ) (h : ItemsAt relative_name string whole sets n slice) (base : List AttributePlace) (now next : Rest) (out new : List AttributePlace) (count number after : ℕ) (e : Element)
    (left : Sets A) (place : ℕ) (bytes : List ℕ) (items : ItemsAt relative_name string whole left place bytes) (mine : List AttributePlace) →
    now.at ≡ place → now.rest ≡ bytes →
    ((more : List AttributePlace) → SetsTold number string whole left place bytes items more → SetsTold 0 string whole sets n slice h (mine ++ more)) →
    out ≡ filled mine base → count ≡ length mine →
    Passes now next e → PutsSet A number e.inside count out new after →
    SetsGone string whole sets n slice h base next new after (number + 1)
more_gone string whole sets n slice h base now next out new count number after e [] place bytes items mine at rest told written size step puts = absurd (empty_front e now next step (rest ∙ items))
more_gone string whole sets n slice h base now next out new count number after e (set ∷ left) place bytes items mine at rest told written size step puts =
    let f = in_front now next e place items.front items.back step (set_raw set items.front items.first.field.tally items.first.field.spelled) (rest ∙ items.bytes) at in
    let k = items.first.parts in
    let same = element_one 49 e.tag k.content e.inside.rest [] [] (ap (λ x. x ++ []) (sym k.bytes ∙ f.slice)) in
    let q = puts set (place + header k.content) k.content string whole k.inner.parts (sym same.content) (f.inside ∙ ap (λ x. place + header x) (sym same.content)) mine base size written in
    let t = q.told in
    let all : q.places ≡ mine ++ t.back = t.parts ∙ ap (λ x. x ++ t.back) t.first in
    let E : List AttributePlace → Type 0 = λ x. SetsTold 0 string whole sets n slice h x in
    record {
      left = left;
      place = place + length items.front;
      bytes = items.back;
      at = f.at;
      rest = f.rest;
      items = items.second;
      mine = mine ++ t.back;
      told = λ more m. subst E (sym (append_assoc mine t.back more)) (told (t.back ++ more) (record { front = t.back; back = more; parts = refl; first = t.more; more = m }));
      written = q.written ∙ ap (λ x. filled x base) all;
      count = q.count ∙ ap length all;
    }

pub one_gone : {A : Type 0} (string : List ℕ) (whole : Tally) (sets : Sets A) (n : ℕ) (slice : List ℕ) (h : ItemsAt relative_name string whole sets n slice) (base : List AttributePlace) (now next : Rest) (out new : List AttributePlace) (count number after : ℕ) (e : Element) →
    SetsGone string whole sets n slice h base now out count number → Passes now next e → PutsSet A number e.inside count out new after →
    SetsGone string whole sets n slice h base next new after (number + 1)
one_gone string whole sets n slice h base now next out new count number after e g step puts =
    more_gone string whole sets n slice h base now next out new count number after e g.left g.place g.bytes g.items g.mine g.at g.rest g.told g.written g.count step puts

none_left : {A : Type 0} (number : ℕ) (string : List ℕ) (whole : Tally) (left : Sets A) (place : ℕ) (bytes : List ℕ) (items : ItemsAt relative_name string whole left place bytes) (now : Rest) → now.rest ≡ bytes → NoFirst now.rest → SetsTold number string whole left place bytes items []
none_left number string whole [] place bytes items now rest none = refl
none_left number string whole (set ∷ left) place bytes items now rest none =
    let r = set_raw set items.front items.first.field.tally items.first.field.spelled in
    absurd (none r.tag r.content items.back r.fits (rest ∙ items.bytes ∙ ap (λ x. x ++ items.back) r.bytes))

pub all_gone : {A : Type 0} (string : List ℕ) (whole : Tally) (sets : Sets A) (n : ℕ) (slice : List ℕ) (h : ItemsAt relative_name string whole sets n slice) (base : List AttributePlace) (now : Rest) (out : List AttributePlace) (count number : ℕ) →
    SetsGone string whole sets n slice h base now out count number → NoFirst now.rest →
    Fills (SetsTold 0 string whole sets n slice h) base out count
all_gone string whole sets n slice h base now out count number g none =
    let E : List AttributePlace → Type 0 = λ x. SetsTold 0 string whole sets n slice h x in
    record {
      places = g.mine;
      told = subst E (append-nil g.mine) (g.told [] (none_left number string whole g.left g.place g.bytes g.items now g.rest none));
      written = g.written;
      count = g.count;
    }

-- the content of the name that a span covers
pub record NameContent {A : Type 0} (v : Sets A) (span : Span) (slice string : List ℕ) (whole : Tally) (sets : Rest) : Type 0 where
  pub name : ContentAt 48 name_content v span.start slice string whole
  pub rest : sets.rest ≡ name.content
  pub at : sets.at ≡ span.start + header name.content

pub name_content_at : {A : Type 0} → Lawful (name {A = A}) → (v : Sets A) (span : Span) (string : List ℕ) (whole : Tally) (f : FieldIn name v span string whole) (w w1 : Rest) (e : Element) → Over string span w → Finds w w1 e → NameContent v span f.slice string whole e.inside
name_content_at l v span string whole f w w1 e over finds =
    let p = f.at.part in
    let k : ContentAt 48 name_content v span.start f.slice string whole = l.parts v f.slice f.at.tally f.at.spelled span.start string whole p in
    let o = over f.slice (record { before = p.before; after = p.after; bytes = p.bytes; from = p.at; to = omega (arith, f.end, p.at) }) in
    let r = finds 48 k.content [] refl (o.0 ∙ k.bytes ∙ sym (append-nil (element 48 k.content))) in
    record { name = k; rest = r.content; at = r.at ∙ ap (λ x. x + header k.content) o.1 }

pub name_told : {A : Type 0} (v : Sets A) (span : Span) (slice string : List ℕ) (whole : Tally) (sets : Rest) (k : NameContent v span slice string whole sets) (old new : List AttributePlace) (count : ℕ) → Fills (SetsTold 0 string whole v (span.start + header k.name.content) k.name.content k.name.inner.parts) old new count → Fills (NameTold v span.start slice string whole) old new count
name_told v span slice string whole sets k old new count f = record {
  places = f.places;
  told = record { name = k.name; attributes = f.told };
  written = f.written;
  count = f.count;
}

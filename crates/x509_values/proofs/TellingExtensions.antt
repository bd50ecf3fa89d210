-- The first extension with an identifier, as far as it is looked for.
use Rattle.std.proofs.Common.{◌≡◌, ℕ, ◌+◌, Bool, Option, Some, None, List, [], ◌∷◌, ◌++◌, length, refl, sym, ap, ◌∙◌, arith, append-nil, append_assoc, length-append, inl, inr}
use Rattle.x509_der.specs.Boolean.{booleans}
use Rattle.x509_der.specs.Element.{IsRaw, element, header}
use Rattle.x509_der.specs.Fields.{Stands}
use Rattle.x509_der.specs.Items.{ItemsAt, items}
use Rattle.x509_der.specs.ObjectIdentifier.{oid_content}
use Rattle.x509_der.specs.Optional.{OptionalAt}
use Rattle.x509_der.specs.Reading.{NoFirst}
use Rattle.x509_der.specs.Shape.{Lawful}
use Rattle.x509_der.specs.Tagged.{tagged, ContentAt}
use Rattle.x509_der.specs.Tally.{Tally}
use Rattle.x509_der.specs.facts.Element.{element_one, element_length}
use Rattle.picky_asn1_x509.specs.Extensions.{ExtensionFields, ExtensionAt, extension}
use Rattle.picky_asn1_x509.specs.ExtensionLists.{extensions}
use Rattle.x509_fields.specs.Spans.{FieldIn}
use Rattle.x509_fields.specs.declared.span.Span.{Span}
use Rattle.x509_values.specs.Rests.{Rest}
use Rattle.x509_values.specs.Elements.{Passes, Finds, Over, span_of}
use Rattle.x509_values.specs.Extensions.{HasIdentifier, ValueTold, ToldIf}
use Rattle.x509_values.specs.Told.{HeldIn, FirstTold}
use Rattle.x509_values.specs.declared.elements.Element.{Element}
use Rattle.x509_values.specs.facts.Values.{covered}
use Rattle.x509_values.proofs.Telling.{held_in, in_front, empty_front}

-- the walk behind the identifier
pub record BehindKey {A : Type 0} (v : ExtensionFields A) (n : ℕ) (slice : List ℕ) (y : Tally) (a : ExtensionAt v slice y) (w1 : Rest) (e : Element) : Type 0 where
  pub own : e.inside.rest ≡ oid_content v.extn_id
  pub rest : w1.rest ≡ a.flags ++ a.values
  pub at : w1.at ≡ (n + header a.content) + length a.ids

pub behind_key : {A : Type 0} (v : ExtensionFields A) (n t : ℕ) (slice : List ℕ) (y : Tally) (a : ExtensionAt v slice y) (w w1 : Rest) (e : Element) → slice ≡ element t w.rest → w.at ≡ n + header w.rest → Finds w w1 e → BehindKey v n slice y a w1 e
behind_key v n t slice y a w w1 e bytes place finds =
    let same = element_one 48 t a.content w.rest [] [] (ap (λ x. x ++ []) (sym a.bytes ∙ bytes)) in
    let i = a.id_at.spelled in
    let front : w.rest ≡ element 6 i.content ++ (a.flags ++ a.values) =
    sym same.content ∙ a.fields ∙ ap (λ x. x ++ a.values) a.key_fields ∙ append_assoc a.ids a.flags a.values ∙ ap (λ x. x ++ (a.flags ++ a.values)) i.bytes in
    let r = finds 6 i.content (a.flags ++ a.values) refl front in
    record {
      own = r.content ∙ i.spelled.0.1;
      rest = r.rest;
      at = omega (arith, r.behind, place, ap header same.content, ap length i.bytes, element_length 6 i.content);
    }

pub plain_value : (flag : Option Bool) (m : ℕ) (string : List ℕ) (y : Tally) (ids flags keys values octets : List ℕ) (k : ℕ) (w w1 : Rest) (e : Element) (at : Span) → OptionalAt (tagged 1 booleans) flag m flags string y → keys ≡ ids ++ flags → values ≡ element 4 octets → w.rest ≡ flags ++ values → w.at ≡ k + length ids → Finds w w1 e → (e.tag ≡ 1 → ⊥) → at ≡ span_of e.inside → HeldIn 4 values (k + length keys) at
plain_value None m string y ids flags keys values octets k w w1 e at o key val rest place finds other is =
    let r = finds 4 octets [] refl (rest ∙ ap (λ x. x ++ values) o ∙ val ∙ sym (append-nil (element 4 octets))) in
    held_in 4 octets values (k + length keys) e.inside at val r.content (omega (arith, r.at, place, ap length key, length-append ids flags, ap length o)) is
plain_value (Some b) m string y ids flags keys values octets k w w1 e at o key val rest place finds other is =
    let c : ContentAt 1 booleans b m flags string y = o.parts in
    let r = finds 1 c.content values refl (rest ∙ ap (λ x. x ++ values) c.bytes) in
    absurd (other r.tag)

pub flagged_value : (flag : Option Bool) (m : ℕ) (string : List ℕ) (y : Tally) (ids flags keys values octets : List ℕ) (k : ℕ) (w w1 w2 : Rest) (e f : Element) (at : Span) → OptionalAt (tagged 1 booleans) flag m flags string y → keys ≡ ids ++ flags → values ≡ element 4 octets → w.rest ≡ flags ++ values → w.at ≡ k + length ids → Finds w w1 e → Finds w1 w2 f → e.tag ≡ 1 → at ≡ span_of f.inside → HeldIn 4 values (k + length keys) at
flagged_value None m string y ids flags keys values octets k w w1 w2 e f at o key val rest place finds more own is =
    let r = finds 4 octets [] refl (rest ∙ ap (λ x. x ++ values) o ∙ val ∙ sym (append-nil (element 4 octets))) in
    absurd (omega (arith, r.tag, own))
flagged_value (Some b) m string y ids flags keys values octets k w w1 w2 e f at o key val rest place finds more own is =
    let c : ContentAt 1 booleans b m flags string y = o.parts in
    let r = finds 1 c.content values refl (rest ∙ ap (λ x. x ++ values) c.bytes) in
    let q = more 4 octets [] refl (r.rest ∙ val ∙ sym (append-nil (element 4 octets))) in
    held_in 4 octets values (k + length keys) f.inside at val q.content (omega (arith, q.at, r.behind, place, ap length key, length-append ids flags, ap length c.bytes, element_length 1 c.content)) is

-- no extension before those that are left has the identifier
pub record Sought {A : Type 0} (identifier : List ℕ) (string : List ℕ) (whole : Tally) (v : List (ExtensionFields A)) (n : ℕ) (slice : List ℕ) (h : ItemsAt extension string whole v n slice) (now : Rest) : Type 0 where
  pub left : List (ExtensionFields A)
  pub place : ℕ
  pub bytes : List ℕ
  pub at : now.at ≡ place
  pub rest : now.rest ≡ bytes
  pub items : ItemsAt extension string whole left place bytes
  pub told : (r : Option Span) → FirstTold extension string whole (HasIdentifier identifier) (ValueTold string whole) left place bytes items r → FirstTold extension string whole (HasIdentifier identifier) (ValueTold string whole) v n slice h r

pub all_sought : {A : Type 0} (identifier string : List ℕ) (whole : Tally) (v : List (ExtensionFields A)) (n : ℕ) (slice : List ℕ) (h : ItemsAt extension string whole v n slice) (now : Rest) → now.rest ≡ slice → now.at ≡ n → Sought identifier string whole v n slice h now
all_sought identifier string whole v n slice h now rest at = record { left = v; place = n; bytes = slice; at = at; rest = rest; items = h; told = λ r t. t }

-- what one more extension is told as
abbrev pub Tells : (A : Type 0) (identifier string : List ℕ) (whole : Tally) (e : Element) (r : Option Span) → Type 0
Tells A identifier string whole e r = (v : ExtensionFields A) (n : ℕ) (slice : List ℕ) → Stands extension v n slice string whole → slice ≡ element e.tag e.inside.rest → e.inside.at ≡ n + header e.inside.rest → ToldIf identifier string whole v n slice r

passed : {A : Type 0} → ((v : ExtensionFields A) (p : List ℕ) (y : Tally) → extension.spelled v p y → IsRaw p) → (identifier string : List ℕ) (whole : Tally) (v : List (ExtensionFields A)) (n : ℕ) (slice : List ℕ) (h : ItemsAt extension string whole v n slice) (now next : Rest) (e : Element)
    (left : List (ExtensionFields A)) (place : ℕ) (bytes : List ℕ) (items : ItemsAt extension string whole left place bytes) → now.at ≡ place → now.rest ≡ bytes →
    ((r : Option Span) → FirstTold extension string whole (HasIdentifier identifier) (ValueTold string whole) left place bytes items r → FirstTold extension string whole (HasIdentifier identifier) (ValueTold string whole) v n slice h r) →
    Passes now next e → Tells A identifier string whole e None → Sought identifier string whole v n slice h next
passed raw identifier string whole v n slice h now next e [] place bytes items at rest told step tells = absurd (empty_front e now next step (rest ∙ items))
passed raw identifier string whole v n slice h now next e (x ∷ left) place bytes items at rest told step tells =
    let f = in_front now next e place items.front items.back step (raw x items.front items.first.field.tally items.first.field.spelled) (rest ∙ items.bytes) at in
    record {
      left = left;
      place = place + length items.front;
      bytes = items.back;
      at = f.at;
      rest = f.rest;
      items = items.second;
      told = λ r t. told r (inr (tells x place items.front items.first f.slice f.inside, t));
    }

pub one_passed : {A : Type 0} → ((v : ExtensionFields A) (p : List ℕ) (y : Tally) → extension.spelled v p y → IsRaw p) → (identifier string : List ℕ) (whole : Tally) (v : List (ExtensionFields A)) (n : ℕ) (slice : List ℕ) (h : ItemsAt extension string whole v n slice) (now next : Rest) (e : Element) → Sought identifier string whole v n slice h now → Passes now next e → Tells A identifier string whole e None → Sought identifier string whole v n slice h next
one_passed raw identifier string whole v n slice h now next e g step tells = passed raw identifier string whole v n slice h now next e g.left g.place g.bytes g.items g.at g.rest g.told step tells

found : {A : Type 0} → ((v : ExtensionFields A) (p : List ℕ) (y : Tally) → extension.spelled v p y → IsRaw p) → (identifier string : List ℕ) (whole : Tally) (v : List (ExtensionFields A)) (n : ℕ) (slice : List ℕ) (h : ItemsAt extension string whole v n slice) (now next : Rest) (e : Element) (r : Span)
    (left : List (ExtensionFields A)) (place : ℕ) (bytes : List ℕ) (items : ItemsAt extension string whole left place bytes) → now.at ≡ place → now.rest ≡ bytes →
    ((r : Option Span) → FirstTold extension string whole (HasIdentifier identifier) (ValueTold string whole) left place bytes items r → FirstTold extension string whole (HasIdentifier identifier) (ValueTold string whole) v n slice h r) →
    Passes now next e → Tells A identifier string whole e (Some r) → FirstTold extension string whole (HasIdentifier identifier) (ValueTold string whole) v n slice h (Some r)
found raw identifier string whole v n slice h now next e r [] place bytes items at rest told step tells = absurd (empty_front e now next step (rest ∙ items))
found raw identifier string whole v n slice h now next e r (x ∷ left) place bytes items at rest told step tells =
    let f = in_front now next e place items.front items.back step (raw x items.front items.first.field.tally items.first.field.spelled) (rest ∙ items.bytes) at in
    told (Some r) (inl (tells x place items.front items.first f.slice f.inside))

pub one_found : {A : Type 0} → ((v : ExtensionFields A) (p : List ℕ) (y : Tally) → extension.spelled v p y → IsRaw p) → (identifier string : List ℕ) (whole : Tally) (v : List (ExtensionFields A)) (n : ℕ) (slice : List ℕ) (h : ItemsAt extension string whole v n slice) (now next : Rest) (e : Element) (r : Span) → Sought identifier string whole v n slice h now → Passes now next e → Tells A identifier string whole e (Some r) → FirstTold extension string whole (HasIdentifier identifier) (ValueTold string whole) v n slice h (Some r)
one_found raw identifier string whole v n slice h now next e r g step tells = found raw identifier string whole v n slice h now next e r g.left g.place g.bytes g.items g.at g.rest g.told step tells

none_left : {A : Type 0} → ((v : ExtensionFields A) (p : List ℕ) (y : Tally) → extension.spelled v p y → IsRaw p) → (identifier string : List ℕ) (whole : Tally) (left : List (ExtensionFields A)) (place : ℕ) (bytes : List ℕ) (items : ItemsAt extension string whole left place bytes) (now : Rest) → now.rest ≡ bytes → NoFirst now.rest → FirstTold extension string whole (HasIdentifier identifier) (ValueTold string whole) left place bytes items None
none_left raw identifier string whole [] place bytes items now rest none = refl
none_left raw identifier string whole (x ∷ left) place bytes items now rest none =
    let r = raw x items.front items.first.field.tally items.first.field.spelled in
    absurd (none r.tag r.content items.back r.fits (rest ∙ items.bytes ∙ ap (λ y. y ++ items.back) r.bytes))

pub none_found : {A : Type 0} → ((v : ExtensionFields A) (p : List ℕ) (y : Tally) → extension.spelled v p y → IsRaw p) → (identifier string : List ℕ) (whole : Tally) (v : List (ExtensionFields A)) (n : ℕ) (slice : List ℕ) (h : ItemsAt extension string whole v n slice) (now : Rest) → Sought identifier string whole v n slice h now → NoFirst now.rest → FirstTold extension string whole (HasIdentifier identifier) (ValueTold string whole) v n slice h None
none_found raw identifier string whole v n slice h now g none = g.told None (none_left raw identifier string whole g.left g.place g.bytes g.items now g.rest none)

-- the content of the list that a span covers
pub record ListContent {A : Type 0} (v : List (ExtensionFields A)) (span : Span) (slice string : List ℕ) (whole : Tally) (now : Rest) : Type 0 where
  pub list : ContentAt 48 (items extension) v span.start slice string whole
  pub rest : now.rest ≡ list.content
  pub at : now.at ≡ span.start + header list.content

pub list_content_at : {A : Type 0} → Lawful (extensions {A = A}) → (v : List (ExtensionFields A)) (span : Span) (string : List ℕ) (whole : Tally) (f : FieldIn extensions v span string whole) (w w1 : Rest) (e : Element) → Over string span w → Finds w w1 e → ListContent v span f.slice string whole e.inside
list_content_at l v span string whole f w w1 e over finds =
    let k : ContentAt 48 (items extension) v span.start f.slice string whole = l.parts v f.slice f.at.tally f.at.spelled span.start string whole f.at.part in
    let o = over f.slice (covered extensions v span string whole f) in
    let r = finds 48 k.content [] refl (o.0 ∙ k.bytes ∙ sym (append-nil (element 48 k.content))) in
    record { list = k; rest = r.content; at = r.at ∙ ap (λ x. x + header k.content) o.1 }

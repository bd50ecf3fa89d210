-- The last field of an authority key identifier that has a key's identifier.
use Rattle.std.proofs.Common.{◌≡◌, true, ℕ, List, [], ◌∷◌, ◌++◌, Option, Some, None, refl, sym, ap, ◌∙◌, arith, subst, append-nil, inl, inr}
use Rattle.std.proofs.lemmas.Bool.Decides.{eqb_tells}
use Rattle.x509_der.specs.Element.{element, is_tag}
use Rattle.x509_der.specs.Items.{Items}
use Rattle.x509_der.specs.Lasts.{last, later}
use Rattle.x509_der.specs.Reading.{NoFirst}
use Rattle.x509_der.specs.Tally.{Tally}
use Rattle.x509_der.specs.Types.{Deviation}
use Rattle.x509_der.specs.Types.choice.{First, Second}
use Rattle.x509_der.specs.facts.ObjectIdentifier.{some_is}
use Rattle.picky_asn1_x509.specs.AuthorityKeyIdentifier.{KeyAuthority, Part, authority_key_identifier, key_in, part}
use Rattle.x509_fields.specs.Spans.{FieldIn}
use Rattle.x509_fields.specs.declared.span.Span.{Span}
use Rattle.x509_values.specs.Rests.{Rest}
use Rattle.x509_values.specs.Elements.{Finds, Over, Passes, span_of}
use Rattle.x509_values.specs.declared.elements.Element.{Element}
use Rattle.x509_values.specs.facts.Elements.{finds_it}
use Rattle.x509_values.specs.facts.Values.{covered}
use Rattle.x509_values.proofs.Telling.{empty_front}
use Rattle.x509_flat_values.specs.Covered.{CoversIf, Within, no_span}
use Rattle.x509_flat_values.proofs.Walking.{Step, step, last_step, over_within, span_covers}

-- the element that a field is
pub record PartElement {A : Type 0} (p : Part A) (front : List ℕ) : Type 0 where
  pub tag : ℕ
  pub content : List ℕ
  pub fits : is_tag tag ≡ true
  pub bytes : front ≡ element tag content
  pub key : tag ≡ 128 → key_in p ≡ Some content
  pub other : (tag ≡ 128 → ⊥) → key_in p ≡ None

part_element : {A : Type 0} (p : Part A) (front : List ℕ) (y : Tally) → part.spelled p front y → PartElement p front
part_element (First k) front y h = record { tag = 128; content = h.content; fits = refl; bytes = h.bytes; key = λ e. ap Some (sym h.spelled.0.1); other = λ n. absurd (n refl) }
part_element (Second (First n)) front y h = record { tag = 161; content = h.content; fits = refl; bytes = h.bytes; key = λ e. absurd (omega (arith, e)); other = λ n. refl }
part_element (Second (Second s)) front y h = record { tag = 130; content = h.content; fits = refl; bytes = h.bytes; key = λ e. absurd (omega (arith, e)); other = λ n. refl }

later_some : (x value : Option (List ℕ)) (c : List ℕ) → later x (Some c) ≡ later (later x (Some c)) value
later_some (Some a) value c = refl
later_some None value c = refl

later_none : (x value : Option (List ℕ)) → later x value ≡ later (later x None) value
later_none (Some a) value = refl
later_none None value = refl

later_first : (x : Option (List ℕ)) → later x None ≡ x
later_first (Some a) = refl
later_first None = refl

-- the fields that are left, and the last identifier before them
pub record Left {A : Type 0} (string : List ℕ) (parts : List (Part A)) (now : Rest) (at : Span) : Type 0 where
  pub left : List (Part A)
  pub tally : Tally
  pub within : Within string now
  pub items : Items part left now.rest tally
  pub value : Option (List ℕ)
  pub covers : CoversIf string at value
  pub is : later (last key_in left) value ≡ last key_in parts

pub all_left : {A : Type 0} (string : List ℕ) (parts : List (Part A)) (y : Tally) (now : Rest) (at : Span) → Within string now → Items part parts now.rest y → at ≡ no_span → Left string parts now at
all_left string parts y now at within items none = record { left = parts; tally = y; within = within; items = items; value = None; covers = none; is = later_first (last key_in parts) }

-- a field more that has one, or has none
more_key : {A : Type 0} (string : List ℕ) (parts : List (Part A)) (now next : Rest) (e : Element) (at : Span) (left : List (Part A)) (y : Tally) (value : Option (List ℕ)) → Within string now → Items part left now.rest y → later (last key_in left) value ≡ last key_in parts → Passes now next e → e.tag ≡ 128 → at ≡ span_of e.inside → Left string parts next at
more_key string parts now next e at [] y value within items is h key same = absurd (empty_front e now next h items.0)
more_key string parts now next e at (p ∷ left) y value within items is h key same =
    let q = part_element p items.front items.first items.fore in
    let s = step string q.tag q.content items.back now next e within (items.bytes ∙ ap (λ x. x ++ items.back) q.bytes) q.fits (finds_it now next e h) in
    let k = q.key (sym s.tag ∙ key) in
    let I : List ℕ → Type 0 = λ x. Items part left x items.second in
    record {
      left = left;
      tally = items.second;
      within = s.next;
      items = subst I (sym s.rest) items.aft;
      value = Some q.content;
      covers = span_covers string q.content e.inside at s.inside s.content same;
      is = later_some (last key_in left) value q.content ∙ ap (λ x. later (later (last key_in left) x) value) (sym k) ∙ is;
    }

more_other : {A : Type 0} (string : List ℕ) (parts : List (Part A)) (now next : Rest) (e : Element) (at : Span) (left : List (Part A)) (y : Tally) (value : Option (List ℕ)) → Within string now → Items part left now.rest y → CoversIf string at value → later (last key_in left) value ≡ last key_in parts → Passes now next e → (e.tag ≡ 128 → ⊥) → Left string parts next at
more_other string parts now next e at [] y value within items covers is h other = absurd (empty_front e now next h items.0)
more_other string parts now next e at (p ∷ left) y value within items covers is h other =
    let q = part_element p items.front items.first items.fore in
    let s = step string q.tag q.content items.back now next e within (items.bytes ∙ ap (λ x. x ++ items.back) q.bytes) q.fits (finds_it now next e h) in
    let n = q.other (λ t. other (s.tag ∙ t)) in
    let I : List ℕ → Type 0 = λ x. Items part left x items.second in
    record {
      left = left;
      tally = items.second;
      within = s.next;
      items = subst I (sym s.rest) items.aft;
      value = value;
      covers = covers;
      is = later_none (last key_in left) value ∙ ap (λ x. later (later (last key_in left) x) value) (sym n) ∙ is;
    }

pub one_key : {A : Type 0} (string : List ℕ) (parts : List (Part A)) (now next : Rest) (e : Element) (before at : Span) → Left string parts now before → Passes now next e → e.tag ≡ 128 → at ≡ span_of e.inside → Left string parts next at
one_key string parts now next e before at l h key same = more_key string parts now next e at l.left l.tally l.value l.within l.items l.is h key same

pub one_other : {A : Type 0} (string : List ℕ) (parts : List (Part A)) (now next : Rest) (e : Element) (at : Span) → Left string parts now at → Passes now next e → (e.tag ≡ 128 → ⊥) → Left string parts next at
one_other string parts now next e at l h other = more_other string parts now next e at l.left l.tally l.value l.within l.items l.covers l.is h other

pub one_later : {A : Type 0} (string : List ℕ) (parts : List (Part A)) (now next : Rest) (e : Element) (before at : Span) → Left string parts now before → Passes now next e → (e.tag ≡ 128 → at ≡ span_of e.inside) → ((e.tag ≡ 128 → ⊥) → at ≡ before) → Left string parts next at
one_later string parts now next e before at l h key other =
    elim (eqb_tells e.tag 128) [
      | inl t ↦ one_key string parts now next e before at l h t.1 (key t.1)
      | inr t ↦ (let P : Span → Type 0 = λ s. Left string parts next s in subst P (sym (other t.1)) (one_other string parts now next e before l h t.1))
    ]

none_left : {A : Type 0} (left : List (Part A)) (bytes : List ℕ) (y : Tally) (value all : Option (List ℕ)) → Items part left bytes y → NoFirst bytes → later (last key_in left) value ≡ all → value ≡ all
none_left [] bytes y value all items none is = is
none_left (p ∷ left) bytes y value all items none is =
    let q = part_element p items.front items.first items.fore in
    absurd (none q.tag q.content items.back q.fits (items.bytes ∙ ap (λ x. x ++ items.back) q.bytes))

pub all_done : {A : Type 0} (string : List ℕ) (parts : List (Part A)) (now : Rest) (at : Span) → Left string parts now at → NoFirst now.rest → CoversIf string at (last key_in parts)
all_done string parts now at l none =
    let P : Option (List ℕ) → Type 0 = λ o. CoversIf string at o in
    subst P (none_left l.left now.rest l.tally l.value (last key_in parts) l.items none l.is) l.covers

-- the fields of the identifier that a span covers
pub record Listed {A : Type 0} (string : List ℕ) (v : KeyAuthority A) (fields : Rest) : Type 0 where
  pub parts : List (Part A)
  pub tally : Tally
  pub within : Within string fields
  pub items : Items part parts fields.rest tally
  pub is : last key_in parts ≡ v.key_identifier

pub listed : {A : Type 0} (string : List ℕ) (span : Span) (v : KeyAuthority A) (whole : Tally) (f : FieldIn authority_key_identifier v span string whole) (w w1 : Rest) (e : Element) → Over string span w → Finds w w1 e → Listed string v e.inside
listed {A} string span v whole f w w1 e over finds =
    let o = over_within string f.slice span w over (covered authority_key_identifier v span string whole f) in
    let a = f.at.spelled in
    let i = a.spelled in
    let s = last_step string 48 i.content w w1 e o.0 (o.1 ∙ i.bytes) refl finds in
    let I : List ℕ → Type 0 = λ x. Items part a.base x i.part in
    record {
      parts = a.base;
      tally = i.part;
      within = s.inside;
      items = subst I (sym s.content) i.spelled;
      is = ap (λ (x : KeyAuthority A × List Deviation). x.0.key_identifier) (some_is _ _ a.means);
    }

pub told : {A : Type 0} (string : List ℕ) (v : KeyAuthority A) (fields now : Rest) (at : Span) (l : Listed string v fields) → Left string l.parts now at → NoFirst now.rest → CoversIf string at v.key_identifier
told string v fields now at l left none =
    let P : Option (List ℕ) → Type 0 = λ o. CoversIf string at o in
    subst P l.is (all_done string l.parts now at left none)

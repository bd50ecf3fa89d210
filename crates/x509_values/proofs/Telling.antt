-- The items of a list, as far as they are told.
use Rattle.std.proofs.Common.{◌≡◌, ℕ, ◌+◌, List, [], ◌∷◌, ◌++◌, length, refl, sym, ap, ◌∙◌, arith, subst, length-append, append-nil, append_assoc}
use Rattle.x509_der.specs.Element.{IsRaw, element, header}
use Rattle.x509_der.specs.Fields.{Stands}
use Rattle.x509_der.specs.Items.{ItemsAt}
use Rattle.x509_der.specs.Reading.{NoFirst}
use Rattle.x509_der.specs.Shape.{Shape}
use Rattle.x509_der.specs.Tally.{Tally}
use Rattle.x509_der.specs.facts.Element.{element_one, element_length}
use Rattle.x509_fields.specs.declared.span.Span.{Span}
use Rattle.x509_values.specs.Rests.{Rest}
use Rattle.x509_values.specs.Elements.{Passes, span_of}
use Rattle.x509_values.specs.Told.{HeldIn, EachTold, Fills, Parted, filled}
use Rattle.x509_values.specs.declared.elements.Element.{Element}

-- some items of a list are told behind those that were told before, and the others are left
pub record Gone {V P : Type 0} (s : Shape V) (string : List ℕ) (whole : Tally) (Tells : V → ℕ → List ℕ → P → Type 0) (vs : List V) (n : ℕ) (slice : List ℕ) (h : ItemsAt s string whole vs n slice) (before base : List P) (now : Rest) (out : List P) (number : ℕ) : Type 0 where
  pub left : List V
  pub place : ℕ
  pub bytes : List ℕ
  pub at : now.at ≡ place
  pub rest : now.rest ≡ bytes
  pub items : ItemsAt s string whole left place bytes
  pub mine : List P
  pub told : (more : List P) → EachTold s string whole Tells left place bytes items more → EachTold s string whole Tells vs n slice h (mine ++ more)
  pub written : out ≡ filled (before ++ mine) base
  pub count : number ≡ length (before ++ mine)

pub none_gone : {V P : Type 0} (s : Shape V) (string : List ℕ) (whole : Tally) (Tells : V → ℕ → List ℕ → P → Type 0) (vs : List V) (n : ℕ) (slice : List ℕ) (h : ItemsAt s string whole vs n slice) (before base : List P) (now : Rest) (out : List P) (count : ℕ) → now.rest ≡ slice → now.at ≡ n → count ≡ length before → out ≡ filled before base → Gone s string whole Tells vs n slice h before base now out count
none_gone s string whole Tells vs n slice h before base now out count rest at size is = record {
  left = vs;
  place = n;
  bytes = slice;
  at = at;
  rest = rest;
  items = h;
  mine = [];
  told = λ more e. e;
  written = is ∙ ap (λ x. filled x base) (sym (append-nil before));
  count = size ∙ ap length (sym (append-nil before));
}

-- an element of which the tag and the content are told
pub held_in : (t : ℕ) (c slice : List ℕ) (n : ℕ) (inside : Rest) (span : Span) → slice ≡ element t c → inside.rest ≡ c → inside.at ≡ n + header c → span ≡ span_of inside → HeldIn t slice n span
held_in t c slice n inside span bytes rest at is = record {
  content = c;
  bytes = bytes;
  start = ap (λ (s : Span). s.start) is ∙ at;
  end = omega (arith, ap (λ (s : Span). s.end) is, at, ap length rest, ap length bytes, element_length t c);
}

-- an element that stands in front is the item's
pub record InFront (e : Element) (next : Rest) (n : ℕ) (front back : List ℕ) : Type 0 where
  pub slice : front ≡ element e.tag e.inside.rest
  pub inside : e.inside.at ≡ n + header e.inside.rest
  pub rest : next.rest ≡ back
  pub at : next.at ≡ n + length front

pub in_front : (now next : Rest) (e : Element) (n : ℕ) (front back : List ℕ) → Passes now next e → IsRaw front → now.rest ≡ front ++ back → now.at ≡ n → InFront e next n front back
in_front now next e n front back h raw rest at =
    let k = element_one e.tag raw.tag e.inside.rest raw.content next.rest back (sym h.bytes ∙ rest ∙ ap (λ x. x ++ back) raw.bytes) in
    let slice : front ≡ element e.tag e.inside.rest = raw.bytes ∙ ap (λ t. element t raw.content) (sym k.tag) ∙ ap (element e.tag) (sym k.content) in
    record {
      slice = slice;
      inside = omega (arith, h.inside, at);
      rest = k.rest;
      at = omega (arith, h.end, h.inside, at, ap length slice, element_length e.tag e.inside.rest);
    }

pub empty_front : (e : Element) (now next : Rest) → Passes now next e → now.rest ≡ [] → ⊥
unfolding element
empty_front e now next h is = let k = sym is ∙ h.bytes in omega (arith, ap length k)

-- what the item's element is told as
abbrev pub Tellings : {V P : Type 0} (s : Shape V) (string : List ℕ) (whole : Tally) (Tells : V → ℕ → List ℕ → P → Type 0) (e : Element) (p : P) → Type 0
Tellings {V} s string whole Tells e p = (v : V) (n : ℕ) (slice : List ℕ) → Stands s v n slice string whole → slice ≡ element e.tag e.inside.rest → e.inside.at ≡ n + header e.inside.rest → Tells v n slice p

more_gone : {V P : Type 0} (s : Shape V) (string : List ℕ) (whole : Tally) (Tells : V → ℕ → List ℕ → P → Type 0) → ((v : V) (p : List ℕ) (y : Tally) → s.spelled v p y → IsRaw p) → (vs : List V) (n : ℕ) (slice : List ℕ) (h : ItemsAt s string whole vs n slice) (before base : List P) (now next : Rest) (out new : List P) (count : ℕ) (e : Element) (p : P)
    (left : List V) (place : ℕ) (bytes : List ℕ) (items : ItemsAt s string whole left place bytes) (mine : List P) →
    now.at ≡ place → now.rest ≡ bytes →
    ((more : List P) → EachTold s string whole Tells left place bytes items more → EachTold s string whole Tells vs n slice h (mine ++ more)) →
    out ≡ filled (before ++ mine) base → count ≡ length (before ++ mine) →
    Passes now next e → Tellings s string whole Tells e p →
    ((done : List P) → count ≡ length done → out ≡ filled done base → new ≡ filled (done ++ p ∷ []) base) →
    Gone s string whole Tells vs n slice h before base next new (count + 1)
more_gone s string whole Tells raw vs n slice h before base now next out new count e p [] place bytes items mine at rest told written size step tells put = absurd (empty_front e now next step (rest ∙ items))
more_gone s string whole Tells raw vs n slice h before base now next out new count e p (v ∷ left) place bytes items mine at rest told written size step tells put =
    let f = in_front now next e place items.front items.back step (raw v items.front items.first.field.tally items.first.field.spelled) (rest ∙ items.bytes) at in
    let joined : (before ++ mine) ++ p ∷ [] ≡ before ++ (mine ++ p ∷ []) = append_assoc before mine (p ∷ []) in
    let E : List _ → Type 0 = λ x. EachTold s string whole Tells vs n slice h x in
    record {
      left = left;
      place = place + length items.front;
      bytes = items.back;
      at = f.at;
      rest = f.rest;
      items = items.second;
      mine = mine ++ p ∷ [];
      told = λ more t. subst E (sym (append_assoc mine (p ∷ []) more)) (told (p ∷ more) (tells v place items.front items.first f.slice f.inside, t));
      written = put (before ++ mine) size written ∙ ap (λ x. filled x base) joined;
      count = omega (arith, size, ap length joined, length-append (before ++ mine) (p ∷ []));
    }

pub one_gone : {V P : Type 0} (s : Shape V) (string : List ℕ) (whole : Tally) (Tells : V → ℕ → List ℕ → P → Type 0) → ((v : V) (p : List ℕ) (y : Tally) → s.spelled v p y → IsRaw p) → (vs : List V) (n : ℕ) (slice : List ℕ) (h : ItemsAt s string whole vs n slice) (before base : List P) (now next : Rest) (out new : List P) (count : ℕ) (e : Element) (p : P) →
    Gone s string whole Tells vs n slice h before base now out count → Passes now next e → Tellings s string whole Tells e p →
    ((done : List P) → count ≡ length done → out ≡ filled done base → new ≡ filled (done ++ p ∷ []) base) →
    Gone s string whole Tells vs n slice h before base next new (count + 1)
one_gone s string whole Tells raw vs n slice h before base now next out new count e p g step tells put =
    more_gone s string whole Tells raw vs n slice h before base now next out new count e p g.left g.place g.bytes g.items g.mine g.at g.rest g.told g.written g.count step tells put

none_left : {V P : Type 0} (s : Shape V) (string : List ℕ) (whole : Tally) (Tells : V → ℕ → List ℕ → P → Type 0) → ((v : V) (p : List ℕ) (y : Tally) → s.spelled v p y → IsRaw p) → (left : List V) (place : ℕ) (bytes : List ℕ) (items : ItemsAt s string whole left place bytes) (now : Rest) → now.rest ≡ bytes → NoFirst now.rest → EachTold s string whole Tells left place bytes items []
none_left s string whole Tells raw [] place bytes items now rest none = refl
none_left s string whole Tells raw (v ∷ left) place bytes items now rest none =
    let r = raw v items.front items.first.field.tally items.first.field.spelled in
    absurd (none r.tag r.content items.back r.fits (rest ∙ items.bytes ∙ ap (λ x. x ++ items.back) r.bytes))

pub all_gone : {V P : Type 0} (s : Shape V) (string : List ℕ) (whole : Tally) (Tells : V → ℕ → List ℕ → P → Type 0) → ((v : V) (p : List ℕ) (y : Tally) → s.spelled v p y → IsRaw p) → (vs : List V) (n : ℕ) (slice : List ℕ) (h : ItemsAt s string whole vs n slice) (before base : List P) (now : Rest) (out : List P) (count : ℕ) →
    Gone s string whole Tells vs n slice h before base now out count → NoFirst now.rest →
    Fills (λ places. Parted (λ p. p ≡ before) (EachTold s string whole Tells vs n slice h) places) base out count
all_gone s string whole Tells raw vs n slice h before base now out count g none =
    let E : List _ → Type 0 = λ x. EachTold s string whole Tells vs n slice h x in
    record {
      places = before ++ g.mine;
      told = record { front = before; back = g.mine; parts = refl; first = refl; more = subst E (append-nil g.mine) (g.told [] (none_left s string whole Tells raw g.left g.place g.bytes g.items now g.rest none)) };
      written = g.written;
      count = g.count;
    }

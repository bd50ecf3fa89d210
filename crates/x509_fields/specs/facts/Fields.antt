-- A walk over fields that stand one behind another.
use Rattle.std.proofs.Common.{◌≡◌, ℕ, ◌+◌, ◌==◌, ◌<◌, true, false, List, [], ◌∷◌, ◌++◌, length, refl, sym, ap, ◌∙◌, subst, arith, eq-eqb, true≢false, Option, Some, None}
use Rattle.x509_der.specs.Element.{IsRaw, element, header, is_tag}
use Rattle.x509_der.specs.Fields.{FieldAt}
use Rattle.x509_der.specs.Optional.{Optional, OptionalAt}
use Rattle.x509_der.specs.Shape.{Shape, IsElement, Follows}
use Rattle.x509_der.specs.Tagged.{tagged, IsTagged}
use Rattle.x509_der.specs.Tally.{Tally}
use Rattle.x509_der.specs.laws.Tagged.{tagged_element}
use Rattle.x509_fields.specs.Spans.{FieldIn, OptionalIn}
use Rattle.x509_fields.specs.Walks.{Walk, Steps, StepsIf, Inside}
use Rattle.x509_fields.specs.declared.span.Span.{Span}

-- where a walk is that has p in front of it, and q behind that
pub record Before (w : Walk) (m : ℕ) (p q : List ℕ) : Type 0 where
  pub rest : w.rest ≡ p ++ q
  pub at : w.at ≡ m

-- and where it is behind p
pub record Behind (w : Walk) (m : ℕ) (p q : List ℕ) : Type 0 where
  pub rest : w.rest ≡ q
  pub at : w.at ≡ m + length p

pub append_one : (a b c : List ℕ) → (a ++ b) ++ c ≡ a ++ (b ++ c)
append_one [] b c = refl
append_one (x ∷ a) b c = ap (λ r. x ∷ r) (append_one a b c)

-- what stands in front is a front, with a back behind it
pub at_front : (w : Walk) (m : ℕ) (p a b q : List ℕ) → p ≡ a ++ b → Before w m p q → Before w m a (b ++ q)
at_front w m p a b q e h = record { rest = h.rest ∙ ap (λ x. x ++ q) e ∙ append_one a b q; at = h.at }

-- and behind the front, the back is in front
pub at_back : (w : Walk) (m : ℕ) (a b q : List ℕ) → Behind w m a (b ++ q) → Before w (m + length a) b q
at_back w m a b q h = record { rest = h.rest; at = h.at }

pub record Found {V : Type 0} (s : Shape V) (v : V) (span : Span) (new : Walk) (m : ℕ) (p q string : List ℕ) (whole : Tally) : Type 0 where
  pub field : FieldIn s v span string whole
  pub behind : Behind new m p q

pub raw_step : {V : Type 0} (s : Shape V) (v : V) (m : ℕ) (p q string : List ℕ) (whole : Tally) (old new : Walk) (span : Span) → IsRaw p → FieldAt s v m p string whole → Before old m p q → Steps old new span → Found s v span new m p q string whole
raw_step s v m p q string whole old new span raw f h t =
    let past = t.past p q raw h.rest in
    let start : m ≡ span.start = sym (t.start ∙ h.at) in
    let P : ℕ → Type 0 = λ n. FieldAt s v n p string whole in
    record {
      field = record { slice = p; at = subst P start f; end = t.end ∙ past.1 ∙ ap (λ n. n + length p) (sym t.start) };
      behind = record { rest = past.0; at = past.1 ∙ ap (λ n. n + length p) h.at };
    }

pub field_step : {V : Type 0} (s : Shape V) → IsElement s → (v : V) (m : ℕ) (p q string : List ℕ) (whole : Tally) (old new : Walk) (span : Span) → FieldAt s v m p string whole → Before old m p q → Steps old new span → Found s v span new m p q string whole
field_step s el v m p q string whole old new span f h t = raw_step s v m p q string whole old new span (el.one v p f.tally f.spelled) f h t

pub record FoundIf {V : Type 0} (s : Shape V) (v : Option V) (span : Option Span) (new : Walk) (m : ℕ) (p q string : List ℕ) (whole : Tally) : Type 0 where
  pub field : OptionalIn s v span string whole
  pub behind : Behind new m p q

pub empty_behind : (old new : Walk) (m : ℕ) (p q : List ℕ) → p ≡ [] → new ≡ old → Before old m p q → Behind new m p q
empty_behind old new m p q e n h = record { rest = ap (λ (w : Walk). w.rest) n ∙ h.rest ∙ ap (λ x. x ++ q) e; at = omega (arith, ap (λ (w : Walk). w.at) n, h.at, ap length e) }

-- an element begins with its tag
begins : (t : ℕ) (c q rest : List ℕ) → rest ≡ element t c ++ q → Follows (λ b. b == t) rest → ⊥
unfolding element
begins t c q rest e f = let h : (t == t) ≡ false = rw e at f in absurd (true≢false (sym (eq-eqb t t refl) ∙ h))

-- nothing behind the field begins as it does
pub optional_step : {V : Type 0} (t : ℕ) (s : Shape V) → is_tag t ≡ true → t < 256 → (v : Option V) (m : ℕ) (p q string : List ℕ) (whole : Tally) (old new : Walk) (span : Option Span) → OptionalAt (tagged t s) v m p string whole → Before old m p q → Follows (λ b. b == t) q → StepsIf t old new span → FoundIf (tagged t s) v span new m p q string whole
optional_step t s fits byte None m p q string whole old new None f h g n = record { field = tt; behind = empty_behind old new m p q f n.0 h }
optional_step t s fits byte None m p q string whole old new (Some span) f h g n =
    let e : old.rest ≡ q = h.rest ∙ ap (λ x. x ++ q) f in
    absurd (n.1 (rw e g))
optional_step t s fits byte (Some v) m p q string whole old new None f h g n =
    let i : IsTagged t s v p f.field.tally = f.field.spelled in
    absurd (begins t i.content q old.rest (h.rest ∙ ap (λ x. x ++ q) i.bytes) n.1)
optional_step t s fits byte (Some v) m p q string whole old new (Some span) f h g n =
    let k = field_step (tagged t s) (tagged_element t s fits byte) v m p q string whole old new span f.field h n.0 in
    record { field = k.field; behind = k.behind }

-- what an element of another tag begins, or an optional one that what follows it doesn't begin either
pub other_tag : {V : Type 0} (t u : ℕ) (s : Shape V) (v : V) (p q : List ℕ) (y : Tally) → (u == t) ≡ false → IsTagged u s v p y → Follows (λ b. b == t) (p ++ q)
unfolding element
other_tag t u s v p q y n i = rw i.bytes n

pub other_tag_if : {V : Type 0} (t u : ℕ) (s : Shape V) (v : Option V) (p q : List ℕ) (y : Tally) → (u == t) ≡ false → Optional (tagged u s) v p y → Follows (λ b. b == t) q → Follows (λ b. b == t) (p ++ q)
other_tag_if t u s None p q y n i f = let e : p ++ q ≡ q = ap (λ x. x ++ q) i.0 in rw e f
other_tag_if t u s (Some v) p q y n i f = other_tag t u s v p q y n i

-- one element with the tag
pub element_raw : (t : ℕ) (c p : List ℕ) → is_tag t ≡ true → t < 256 → p ≡ element t c → IsRaw p
element_raw t c p fits byte e = record { tag = t; content = c; fits = fits; byte = byte; bytes = e }

-- and another tag doesn't begin it
pub element_follows : (t u : ℕ) (c p q : List ℕ) → (u == t) ≡ false → p ≡ element u c → Follows (λ b. b == t) (p ++ q)
unfolding element
element_follows t u c p q n e = rw e n

append_nil : (a : List ℕ) → a ++ [] ≡ a
append_nil [] = refl
append_nil (x ∷ a) = ap (λ r. x ∷ r) (append_nil a)

-- the content of a whole input that is one element
pub whole_content : (t : ℕ) (c string : List ℕ) (outer inner : Walk) → is_tag t ≡ true → t < 256 → string ≡ element t c → outer.rest ≡ string → outer.at ≡ 0 → Inside outer inner → (inner.rest ≡ c) × (inner.at ≡ header c)
whole_content t c string outer inner fits byte e rest at i =
    let k = i.content t c [] (element_raw t c (element t c) fits byte refl) (rest ∙ e ∙ sym (append_nil (element t c))) in
    (k.0, omega (arith, k.1, at))

-- Steps past a field that may be absent, of any shape that is one element.
use Rattle.std.proofs.Common.{◌≡◌, ℕ, Bool, true, false, List, ◌∷◌, ◌++◌, sym, ap, ◌∙◌, subst, true≢false, Option, Some, None}
use Rattle.x509_der.specs.Element.{element}
use Rattle.x509_der.specs.Optional.{Optional, OptionalAt}
use Rattle.x509_der.specs.Shape.{Shape, Lawful, IsElement, Begins, Follows}
use Rattle.x509_der.specs.Tagged.{tagged, IsTagged}
use Rattle.x509_der.specs.Tally.{Tally}
use Rattle.x509_fields.specs.Walks.{Walk}
use Rattle.x509_fields.specs.declared.span.Span.{Span}
use Rattle.x509_fields.specs.facts.Chains.{Passes, passes_one}
use Rattle.x509_fields.specs.facts.Fields.{Before, FoundIf, empty_behind, field_step}
use Rattle.x509_outline_fields.specs.Walks.{StepsWhere}

-- what begins with a byte of one set begins with none of another
begun : (starts set : ℕ → Bool) (t : ℕ) (c p q : List ℕ) → ((b : ℕ) → starts b ≡ true → set b ≡ false) → p ≡ element t c → Begins starts p → Follows set (p ++ q)
unfolding element
begun starts set t c p q apart e b =
    let h : starts t ≡ true = rw e at b in
    rw e (apart t h)

-- and with one of a set that holds the first
not_begun : (starts set : ℕ → Bool) (t : ℕ) (c p q rest : List ℕ) → ((b : ℕ) → starts b ≡ true → set b ≡ true) → p ≡ element t c → Begins starts p → rest ≡ p ++ q → Follows set rest → ⊥
unfolding element
not_begun starts set t c p q rest within e b r f =
    let h : starts t ≡ true = rw e at b in
    let n : set t ≡ false = rw (r ∙ ap (λ x. x ++ q) e) at f in
    true≢false (sym (within t h) ∙ n)

-- a field that is there begins with none of the set
pub field_follows : {V : Type 0} (set : ℕ → Bool) (s : Shape V) → Lawful s → IsElement s → ((b : ℕ) → s.starts b ≡ true → set b ≡ false) → (v : V) (p q : List ℕ) (y : Tally) → s.spelled v p y → Follows set (p ++ q)
field_follows set s lawful el apart v p q y h =
    let i = el.one v p y h in
    begun s.starts set i.tag i.content p q apart i.bytes (lawful.begins v p y h)

-- nor does one that may be absent, where nothing behind it does
pub optional_follows : {V : Type 0} (set : ℕ → Bool) (s : Shape V) → Lawful s → IsElement s → ((b : ℕ) → s.starts b ≡ true → set b ≡ false) → (v : Option V) (p q : List ℕ) (y : Tally) → Optional s v p y → Follows set q → Follows set (p ++ q)
optional_follows set s lawful el apart None p q y h f = let e : p ++ q ≡ q = ap (λ x. x ++ q) h.0 in rw e f
optional_follows set s lawful el apart (Some v) p q y h f = field_follows set s lawful el apart v p q y h

-- so it is with one under a tag
pub tagged_follows : {V : Type 0} (set : ℕ → Bool) (u : ℕ) (s : Shape V) (v : V) (p q : List ℕ) (y : Tally) → set u ≡ false → IsTagged u s v p y → Follows set (p ++ q)
unfolding element
tagged_follows set u s v p q y n i = rw i.bytes n

pub tagged_follows_if : {V : Type 0} (set : ℕ → Bool) (u : ℕ) (s : Shape V) (v : Option V) (p q : List ℕ) (y : Tally) → set u ≡ false → Optional (tagged u s) v p y → Follows set q → Follows set (p ++ q)
tagged_follows_if set u s None p q y n i f = let e : p ++ q ≡ q = ap (λ x. x ++ q) i.0 in rw e f
tagged_follows_if set u s (Some v) p q y n i f = tagged_follows set u s v p q y n i

-- the step finds the field where it is there, and else nothing
pub where_step : {V : Type 0} (set : ℕ → Bool) (s : Shape V) → Lawful s → IsElement s → ((b : ℕ) → s.starts b ≡ true → set b ≡ true) → (v : Option V) (m : ℕ) (p q string : List ℕ) (whole : Tally) (old new : Walk) (span : Option Span) → OptionalAt s v m p string whole → Before old m p q → Follows set q → StepsWhere set old new span → FoundIf s v span new m p q string whole
where_step set s lawful el within None m p q string whole old new None f h g n = record { field = tt; behind = empty_behind old new m p q f n.0 h }
where_step set s lawful el within None m p q string whole old new (Some span) f h g n =
    let e : old.rest ≡ q = h.rest ∙ ap (λ x. x ++ q) f in
    absurd (n.1 (rw e g))
where_step set s lawful el within (Some v) m p q string whole old new None f h g n =
    let i = el.one v p f.field.tally f.field.spelled in
    absurd (not_begun s.starts set i.tag i.content p q old.rest within i.bytes (lawful.begins v p f.field.tally f.field.spelled) h.rest n.1)
where_step set s lawful el within (Some v) m p q string whole old new (Some span) f h g n =
    let k = field_step s el v m p q string whole old new span f.field h n.0 in
    record { field = k.field; behind = k.behind }

pub passes_where : (set : ℕ → Bool) (old middle new : Walk) (span : Option Span) (more : List (Option Span)) → StepsWhere set old middle span → Passes middle new more → Passes old new (span ∷ more)
passes_where set old middle new None more s p =
    let P : Walk → Type 0 = λ w. Passes w new more in
    let q = subst P s.0 p in
    record { chain = q.chain; ends = q.ends }
passes_where set old middle new (Some span) more s p = passes_one old middle new span more s.0 p

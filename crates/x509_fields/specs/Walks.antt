-- A walk over elements that stand one behind another (X.690, 8.1).
use Rattle.std.specs.Prelude.{◌≡◌, ◌==◌, not, ℕ, ◌+◌, ◌≤◌, ◌<◌, List, [], ◌∷◌, ◌++◌, length, Option, Some, None}
use Rattle.x509_der.specs.Element.{IsRaw, element, header}
use Rattle.x509_der.specs.Reading.{NoFirst}
use Rattle.x509_der.specs.Shape.{Follows}
use Rattle.x509_fields.specs.Spans.{Chain}
use Rattle.x509_fields.specs.declared.span.Span.{Span}

-- what is left of the bytes, and how many bytes of the input stand before it
pub record Walk : Type 0 where
  pub rest : List ℕ
  pub at : ℕ

-- nothing is lost, and nothing gained
pub record Goes (old new : Walk) : Type 0 where
  pub forward : old.at ≤ new.at
  pub ends : new.at + length new.rest ≡ old.at + length old.rest

-- where an element stands in front, the walk goes past it, and the span is the element's; where none does, the walk stays, and the span is empty
pub record Steps (old new : Walk) (span : Span) : Type 0 where
  pub start : span.start ≡ old.at
  pub end : span.end ≡ new.at
  pub goes : Goes old new
  pub past : (p q : List ℕ) → IsRaw p → old.rest ≡ p ++ q → (new.rest ≡ q) × (new.at ≡ old.at + length p)
  pub stays : NoFirst old.rest → new ≡ old

-- the same, and whether an element stands in front: where none does, the walk stays
abbrev pub StepsOn : Walk → Walk → Option Span → Type 0
StepsOn old new None = (new ≡ old) × NoFirst old.rest
StepsOn old new (Some span) = Steps old new span × (old.at < new.at)

-- the bytes begin with these elements, one behind another, and behind them stands no other
abbrev pub BeginWith : List (List ℕ) → List ℕ → Type 0
BeginWith [] rest = NoFirst rest
BeginWith (p ∷ ps) rest = IsRaw p × ((q : List ℕ) × ((rest ≡ p ++ q) × BeginWith ps q))

-- the number of elements that bytes begin with
abbrev pub Counts : List ℕ → ℕ → Type 0
Counts rest count = (parts : List (List ℕ)) → BeginWith parts rest → count ≡ length parts

-- the same where bytes are left of which the first is the tag; else the walk stays, and there is no span
abbrev pub StepsIf : ℕ → Walk → Walk → Option Span → Type 0
StepsIf tag old new None = (new ≡ old) × Follows (λ b. b == tag) old.rest
StepsIf tag old new (Some span) = Steps old new span × (Follows (λ b. b == tag) old.rest → ⊥)

-- the same where bytes are left of which the first is another
abbrev pub StepsUnless : ℕ → Walk → Walk → Option Span → Type 0
StepsUnless tag old new None = (new ≡ old) × Follows (λ b. not (b == tag)) old.rest
StepsUnless tag old new (Some span) = Steps old new span × (Follows (λ b. not (b == tag)) old.rest → ⊥)

-- where an element stands in front, what is in it is walked over, and else nothing
pub record Inside (outer inner : Walk) : Type 0 where
  pub after : outer.at ≤ inner.at
  pub within : inner.at + length inner.rest ≤ outer.at + length outer.rest
  pub content : (t : ℕ) (c q : List ℕ) → IsRaw (element t c) → outer.rest ≡ element t c ++ q → (inner.rest ≡ c) × (inner.at ≡ outer.at + header c)
  pub nothing : NoFirst outer.rest → (inner.rest ≡ []) × (inner.at ≡ outer.at)

-- all that is left is these fields, one behind another
abbrev pub ToEnd : Walk → List (Option Span) → Type 0
ToEnd w fields = Chain w.at fields (w.at + length w.rest)

-- Steps of a walk past a field that may be absent, told by its first byte.
use Rattle.std.specs.Prelude.{◌≡◌, ℕ, Bool, ◌||◌, ◌==◌, Option, Some, None}
use Rattle.x509_der.specs.Shape.{Follows}
use Rattle.x509_fields.specs.Walks.{Walk, Steps}
use Rattle.x509_fields.specs.declared.span.Span.{Span}

-- where bytes are left of which the first is in the set, the walk goes past the next element; else it stays, and there is no span
abbrev pub StepsWhere : (ℕ → Bool) → Walk → Walk → Option Span → Type 0
StepsWhere set old new None = (new ≡ old) × Follows set old.rest
StepsWhere set old new (Some span) = Steps old new span × (Follows set old.rest → ⊥)

-- the tags of UTCTime and GeneralizedTime (X.680, 46 and 47)
abbrev pub is_time : ℕ → Bool
is_time b = b == 23 || b == 24

-- What a status says of telling what a value has.
use Rattle.std.specs.Prelude.{◌≡◌, ℕ, List}
use Rattle.x509_der.specs.Calls.{IsWhole}
use Rattle.x509_der.specs.Shape.{Shape}
use Rattle.x509_der.specs.Tally.{Tally}
use Rattle.x509_flat.specs.Statuses.{OnlyReads}
use Rattle.x509_flat.specs.declared.status.Status.{Status}
use Rattle.x509_flat.specs.declared.status.Status.TheVariants as answer

-- the bytes encode a value of the shape, of which a fact holds
pub record Encoded {V : Type 0} (s : Shape V) (bytes : List ℕ) (fact : V → Type 0) : Type 0 where
  pub value : V
  pub tally : Tally
  pub whole : IsWhole s bytes value tally
  pub holds : fact value

-- the fields are told of that value; or the bytes encode none, and the fields are none; memory is never refused
pub record Told {V F : Type 0} (s : Shape V) (bytes : List ℕ) (Has : V → F → Type 0) (none : F) (status : Status) (fields : F) : Type 0 where
  pub done : status ≡ answer.Done → Encoded s bytes (λ v. Has v fields)
  pub refused : status ≡ answer.Refused → (fields ≡ none) × ((v : V) (y : Tally) → s.spelled v bytes y → ⊥)
  pub memory : status ≡ answer.OutOfMemory → ⊥
  pub others : OnlyReads status

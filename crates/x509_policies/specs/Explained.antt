-- A value of one of several kinds, read from the whole of a string by the grammar of its kind.
use Rattle.std.specs.Prelude.{◌≡◌, ℕ, List, Result, Ok, Err}
use Rattle.x509_der.specs.Calls.{Counted, NoWhole, GotTo}
use Rattle.x509_der.specs.Shape.{Shape}
use Rattle.x509_der.specs.Types.{Refused}

-- the value of a kind with a payload that the whole string is spelled with, and the ten counts
pub record ReadAs {P V : Type 0} (make : P → V) (s : Shape P) (string : List ℕ) (r : V × List ℕ) : Type 0 where
  pub payload : P
  pub is : r.0 ≡ make payload
  pub counted : Counted s string payload r.1

-- that value; or why the string is spelled with no payload, and how far the read got
abbrev pub ExplainedAs : {P V : Type 0} → (P → V) → Shape P → List ℕ → Result (V × List ℕ) Refused → Type 0
ExplainedAs make s string (Ok r) = ReadAs make s string r
ExplainedAs make s string (Err r) = NoWhole s string r.error × GotTo s string r.error r.at

-- What the calls on whole values give.
use Rattle.std.specs.Prelude.{◌≡◌, ◌↔◌, ℕ, ◌≤◌, ◌<◌, ◌^◌, List, [], ◌++◌, length, drop, sum, Result, Ok, Err}
use Rattle.x509_der_parts.specs.declared.errors.ReadError.{ReadError}
use Rattle.x509_der_parts.specs.declared.errors.ReadError.TheVariants.{OutOfMemory, LeftOver}
use Rattle.x509_der_parts.specs.declared.errors.Refused.{Refused}
use Rattle.x509_der_parts.specs.declared.errors.SliceError.{SliceError}
use Rattle.std.proofs.Common.{◌≡◌, ℕ, ◌+◌, ◌*◌, ◌≤◌, [], length, None}
use Rattle.x509_der_parts.specs.MarkOrder.{Placing}
use Rattle.x509_der_parts.specs.Tally.{Tally, Mark, counts_of}
use Rattle.x509_der_parts.specs.Shape.{Shape, Follows}
use Rattle.x509_der_parts.specs.Reading.{Cursor, Accepts}
use Rattle.x509_der_parts.specs.declared.errors.SliceError.TheVariants as slice

-- the whole string is spelled with the value, and it is the value's strict spelling exactly where no deviation stands in it
pub record IsWhole {V : Type 0} (s : Shape V) (string : List ℕ) (v : V) (y : Tally) : Type 0 where
  pub spelled : s.spelled v string y
  pub strict : (string ≡ s.strict v) ↔ (y.marks ≡ [])

-- a refusal for anything but memory: the string is spelled with no value
abbrev pub NoWhole : {V : Type 0} → Shape V → List ℕ → ReadError → Type 0
NoWhole s string e = (e ≡ OutOfMemory → ⊥) → (v : _) (y : Tally) → s.spelled v string y → ⊥

-- the value that the whole string is spelled with, and every other string refused
abbrev pub WholeRead : {V : Type 0} → Shape V → List ℕ → Result V ReadError → Type 0
WholeRead s string (Ok v) = (y : Tally) × IsWhole s string v y
WholeRead s string (Err e) = NoWhole s string e

-- the same, with the ten counts
pub record Counted {V : Type 0} (s : Shape V) (string : List ℕ) (v : V) (counts : List ℕ) : Type 0 where
  pub tally : Tally
  pub whole : IsWhole s string v tally
  pub counted : counts ≡ counts_of tally.marks
  pub total : sum counts ≡ length tally.marks

abbrev pub CountedRead : {V : Type 0} → Shape V → List ℕ → Result (V × List ℕ) ReadError → Type 0
CountedRead s string (Ok r) = Counted s string r.0 r.1
CountedRead s string (Err e) = NoWhole s string e

-- on accepted input the number is that of the headers of the spelling, at least the total of deviations; on refused input it is at least what is owed
abbrev pub MeteredRead : {V : Type 0} → Shape V → List ℕ → Result (V × List ℕ) ReadError → ℕ → Type 0
MeteredRead s string (Ok r) headers = ((y : Tally) → s.spelled r.0 string y → headers ≡ y.headers) × (sum r.1 ≤ headers)
MeteredRead s string (Err e) headers = (e ≡ OutOfMemory → ⊥) → (n : ℕ) → s.min_headers string n → n ≤ headers

-- how far a refused read got: within the string; to its first byte where that begins no spelling; and where a spelling stands in front of more bytes, to its end
pub record GotTo {V : Type 0} (s : Shape V) (string : List ℕ) (e : ReadError) (at : ℕ) : Type 0 where
  pub within : at ≤ length string
  pub outside : Follows s.starts string → at ≡ 0
  pub behind : (e ≡ OutOfMemory → ⊥) → (v : V) (p q : List ℕ) (y : Tally) → s.spelled v p y → string ≡ p ++ q → (q ≡ [] → ⊥) → (e ≡ LeftOver) × (at ≡ length p)

-- the value with the ten counts; or why there is none, and how far the read got
abbrev pub ExplainedRead : {V : Type 0} → Shape V → List ℕ → Result (V × List ℕ) Refused → Type 0
ExplainedRead s string (Ok r) = Counted s string r.0 r.1
ExplainedRead s string (Err r) = NoWhole s string r.error × GotTo s string r.error r.at

-- the value, and where the marks of its spelling stand: within the input, by start and then by kind
pub record Located {V : Type 0} (s : Shape V) (string : List ℕ) (v : V) (places : List Mark) : Type 0 where
  pub tally : Tally
  pub whole : IsWhole s string v tally
  pub marks : places ≡ tally.marks
  pub placing : Placing (length string) places

-- the slice's front is filled with the string; or nothing is written, since the length passes usize or the slice is shorter
abbrev pub FitsSlice : List ℕ → List ℕ → List ℕ → Result ℕ SliceError → Type 0
FitsSlice string old new (Ok n) = (n ≡ length string) × (new ≡ string ++ drop (length string) old)
FitsSlice string old new (Err slice.TooLong) = (new ≡ old) × (2 ^ 64 ≤ length string)
FitsSlice string old new (Err slice.TooShort) = (new ≡ old) × (length string < 2 ^ 64) × (length old < length string)

pub record TakesAll {V : Type 0} (s : Shape V) (old new : Cursor) (v : V) : Type 0 where
  pub accepts : Accepts s old new v
  pub ends : new.rest ≡ []
  pub whole : IsWhole s old.rest v accepts.tally

pub record RefusesAll {V : Type 0} (s : Shape V) (old new : Cursor) (e : ReadError) : Type 0 where
  pub bound : 2 * new.headers ≤ 2 * old.headers + length old.rest + 2
  pub min_headers : (e ≡ OutOfMemory → ⊥) → (n : ℕ) → s.min_headers old.rest n → old.headers + n ≤ new.headers
  pub spares : s.frugal → old.places ≡ None → e ≡ OutOfMemory → ⊥
  pub none : NoWhole s old.rest e
  pub marked : s.frugal → (v : V) (y : Tally) → s.spelled v old.rest y → y.marks ≡ [] → ⊥
  pub within : new.at ≤ old.at + length old.rest
  pub outside : Follows s.starts old.rest → new.at ≡ old.at
  pub behind : (e ≡ OutOfMemory → ⊥) → (v : V) (p q : List ℕ) (y : Tally) → s.spelled v p y → old.rest ≡ p ++ q → (q ≡ [] → ⊥) → (e ≡ LeftOver) × (new.at ≡ old.at + length p)

-- a read of all that is left
abbrev pub ReadsAll : {V : Type 0} → Shape V → Cursor → Cursor → Result V ReadError → Type 0
ReadsAll s old new (Ok v) = TakesAll s old new v
ReadsAll s old new (Err e) = RefusesAll s old new e

-- the string is spelled with no value, and it isn't for memory that it was refused
abbrev pub NoValue : {V : Type 0} → Shape V → List ℕ → ReadError → Type 0
NoValue {V} s string e = (e ≡ OutOfMemory → ⊥) × ((v : V) (y : Tally) → s.spelled v string y → ⊥)

-- a whole input that was gone past: it is spelled with some value, of which the ten counts are known; or with none
abbrev pub CheckedRead : {V : Type 0} → Shape V → List ℕ → Result (List ℕ) ReadError → Type 0
CheckedRead {V} s string (Ok counts) = (v : V) × Counted s string v counts
CheckedRead s string (Err e) = NoValue s string e

-- the same, and how far it got
abbrev pub ExplainedCheck : {V : Type 0} → Shape V → List ℕ → Result (List ℕ) Refused → Type 0
ExplainedCheck {V} s string (Ok counts) = (v : V) × Counted s string v counts
ExplainedCheck s string (Err r) = NoValue s string r.error × GotTo s string r.error r.at

-- the same, and how many headers were decoded: on accepted input those of the spelling, at least the total of deviations; on refused input at least what is owed
abbrev pub MeteredCheck : {V : Type 0} → Shape V → List ℕ → Result (List ℕ) Refused → ℕ → Type 0
MeteredCheck {V} s string (Ok counts) headers = (v : V) × Counted s string v counts × MeteredRead s string (Ok (v, counts)) headers
MeteredCheck s string (Err r) headers = NoValue s string r.error × GotTo s string r.error r.at × ((n : ℕ) → s.min_headers string n → n ≤ headers)

-- the places of the marks; memory is refused for them alone
abbrev pub LocatedCheck : {V : Type 0} → Shape V → List ℕ → Result (List Mark) ReadError → Type 0
LocatedCheck {V} s string (Ok places) = (v : V) × Located s string v places
LocatedCheck {V} s string (Err e) = NoWhole s string e × ((v : V) (y : Tally) → s.spelled v string y → y.marks ≡ [] → ⊥)

-- going past all that is left
abbrev pub PassesAll : {V : Type 0} → Shape V → Cursor → Cursor → Result (Unit {0}) ReadError → Type 0
PassesAll {V} s old new (Ok u) = (v : V) × TakesAll s old new v
PassesAll s old new (Err e) = RefusesAll s old new e

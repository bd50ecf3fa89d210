-- What comes of bytes as one of the types.
use Rattle.std.specs.Prelude.{◌≡◌, ◌↔◌, ℕ, ◌≤◌, ◌^◌, List, [], length, Option, Some, None, Result, Ok, Err}
use Rattle.x509_der.specs.Calls.{GotTo, IsWhole, Located, NoValue, NoWhole}
use Rattle.x509_der.specs.Shape.{Shape}
use Rattle.x509_der.specs.Tally.{Tally, Mark}
use Rattle.x509_der.specs.Types.{Refused, ReadError, WriteError}
use Rattle.x509_der.specs.Types.read_error
use Rattle.x509_der.specs.Types.write_error

-- a value that the bytes encode, and where the deviations stand
abbrev pub Finds : (V : Type 0) → Shape V → List ℕ → List Mark → Type 0
Finds V s bytes places = (value : V) × Located s bytes value places

-- the bytes encode a value of the type
abbrev pub Encodes : (V : Type 0) → Shape V → List ℕ → Type 0
Encodes V s bytes = (value : V) × (y : Tally) × s.spelled value bytes y

-- they encode none, and how far a reader got
abbrev pub EncodesNone : (V : Type 0) → Shape V → List ℕ → Refused → Type 0
EncodesNone V s bytes why = NoValue s bytes why.error × GotTo s bytes why.error why.at

-- why no value is answered: there is none, and how far the read got; or memory is refused, and nothing is said
abbrev pub NotRead : (V : Type 0) → Shape V → List ℕ → Refused → Type 0
NotRead V s bytes why = NoWhole s bytes why.error × GotTo s bytes why.error why.at

-- memory is refused, which is told at the start
abbrev pub WantsMemory : Refused → Type 0
WantsMemory why = (why.error ≡ read_error.OutOfMemory) × (why.at ≡ 0)

-- why no places are answered: the bytes encode no value; or they encode one with deviations, and memory for their places is refused
pub record NotChecked (V : Type 0) (s : Shape V) (bytes : List ℕ) (why : Refused) : Type 0 where
  pub none : (why.error ≡ read_error.OutOfMemory → ⊥) → EncodesNone V s bytes why
  pub memory : why.error ≡ read_error.OutOfMemory → (why.at ≡ 0) × (value : V) × (y : Tally) × s.spelled value bytes y × (y.marks ≡ [] → ⊥)

-- the DER encoding of the value that the bytes encode
abbrev pub IsEncoding : (V : Type 0) → Shape V → List ℕ → List ℕ → Type 0
IsEncoding V s bytes encoding = (value : V) × (y : Tally) × IsWhole s bytes value y × (encoding ≡ s.strict value)

-- why it isn't written: its length passes usize, or memory is refused
abbrev pub NotWritten : (V : Type 0) → Shape V → List ℕ → WriteError → Type 0
NotWritten V s bytes write_error.TooLong = (value : V) × (y : Tally) × IsWhole s bytes value y × (2 ^ 64 ≤ length (s.strict value))
NotWritten V s bytes write_error.OutOfMemory = Encodes V s bytes

-- the bytes encode a value, and have so many deviations
abbrev pub Counts : (V : Type 0) → Shape V → List ℕ → ℕ → Type 0
Counts V s bytes count = (value : V) × (y : Tally) × IsWhole s bytes value y × (count ≡ length y.marks)

-- What comes of bytes as one of the types.
use Rattle.std.specs.Prelude.{◌≡◌, ℕ, List}
use Rattle.x509_der.specs.Calls.{IsWhole, Located, NoWhole}
use Rattle.x509_der.specs.Shape.{Shape}
use Rattle.x509_der.specs.Tally.{Tally, Mark}
use Rattle.x509_der.specs.Types.{Refused}

-- the bytes encode a value of the type
abbrev pub Encodes : (V : Type 0) → Shape V → List ℕ → Type 0
Encodes V s bytes = (value : V) × (y : Tally) × s.spelled value bytes y

-- a value that the bytes encode, and where the deviations stand
abbrev pub Finds : (V : Type 0) → Shape V → List ℕ → List Mark → Type 0
Finds V s bytes places = (value : V) × Located s bytes value places

-- why no value is answered: there is none, and how far the read got; or memory is refused, and nothing is said
abbrev pub NotRead : (V : Type 0) → Shape V → List ℕ → Refused → Type 0
NotRead V s bytes why = NoWhole s bytes why.error

-- the DER encoding of the value that the bytes encode
abbrev pub IsEncoding : (V : Type 0) → Shape V → List ℕ → List ℕ → Type 0
IsEncoding V s bytes encoding = (value : V) × (y : Tally) × IsWhole s bytes value y × (encoding ≡ s.strict value)

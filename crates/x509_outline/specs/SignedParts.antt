-- The signed part of a structure, of which no value is kept.
use Rattle.std.specs.Prelude.{ℕ, List}
use Rattle.x509_der.specs.FirstField.{FirstPart}
use Rattle.x509_der.specs.Shape.{Shape}

-- the slice is the first field of some value that the string encodes
abbrev pub SignedPartOf : {T V W : Type 0} → (T → V × W) → Shape V → Shape W → List ℕ → List ℕ → List ℕ → List ℕ → Type 0
SignedPartOf {T} view a b string slice inside outside = (value : T) × FirstPart view a b string value slice inside outside

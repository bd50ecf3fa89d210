-- What is counted of what is imported.
use Rattle.std.specs.Prelude.{ℕ, List}
use Rattle.picky_asn1_x509.specs.Calls.{Counted}
use Rattle.picky_asn1_x509.specs.Shape.{Shape}

-- the deviations, by kind, of the value that a string encodes
abbrev pub CountsIn : {V : Type 0} → Shape V → List ℕ → List ℕ → Type 0
CountsIn {V = V} s string counts = (v : V) × Counted s string v counts

-- Truth values as contents (X.690, 8.2 and 11.1).
use Rattle.std.specs.Prelude.{◌≡◌, ℕ, Bool, true, false, List, [], ◌∷◌}
use Rattle.x509_der_parts.specs.Shape.{Shape}
use Rattle.x509_der_parts.specs.PrimitiveContent.{plain}

-- one byte: all ones for true, all zeros for false (X.690, 8.2.2 and 11.1)
abbrev pub boolean_content : Bool → List ℕ
boolean_content true = 255 ∷ []
boolean_content false = 0 ∷ []

abbrev pub IsTruth : Bool → List ℕ → Type 0
IsTruth v p = p ≡ boolean_content v

-- a BOOLEAN's content, which is read without memory
abbrev pub booleans : Shape Bool
booleans = plain IsTruth boolean_content (λ v. Unit {0}) (Unit {0})

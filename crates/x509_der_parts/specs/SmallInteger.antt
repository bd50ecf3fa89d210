-- The numbers 0 to 255 as contents of INTEGERs (X.690, 8.3).
use Rattle.std.specs.Prelude.{◌≡◌, ℕ, ◌<◌, nat_lt, if◌then◌else◌, List, [], ◌∷◌}
use Rattle.x509_der_parts.specs.Shape.{Shape}
use Rattle.x509_der_parts.specs.PrimitiveContent.{plain}

-- the number alone where its top bit is clear; else a zero byte in front, since the top bit is the sign (X.690, 8.3.2 and 8.3.3)
abbrev pub small_integer_content : ℕ → List ℕ
small_integer_content v = if nat_lt v 128 then v ∷ [] else 0 ∷ v ∷ []

abbrev pub IsSmall : ℕ → List ℕ → Type 0
IsSmall v p = (v < 256) × (p ≡ small_integer_content v)

-- the content of an INTEGER from 0 to 255, which is read without memory
abbrev pub small_integers : Shape ℕ
small_integers = plain IsSmall small_integer_content (λ v. v < 256) (Unit {0})

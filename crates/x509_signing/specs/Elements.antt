-- Bytes that begin with an element of a tag (X.690, 8.1.1).
use Rattle.std.specs.Prelude.{◌≡◌, ℕ, List, ◌++◌, Option, Some, None}
use Rattle.std.specs.Borrow.{Bor}
use Rattle.x509_der.specs.Element.{element}

-- the element, its content, and what stands behind it
pub record Splits (tag : ℕ) (bytes whole content rest : List ℕ) : Type 0 where
  pub is : whole ≡ element tag content
  pub split : bytes ≡ whole ++ rest

-- or they begin with none
abbrev pub SplitsIf : (tag : ℕ) (bytes : List ℕ) → Option (Bor (List ℕ) × Bor (List ℕ) × Bor (List ℕ)) → Type 0
SplitsIf tag bytes (Some s) = Splits tag bytes s.0.now s.1.now s.2.now
SplitsIf tag bytes None = (c q : List ℕ) → bytes ≡ element tag c ++ q → ⊥

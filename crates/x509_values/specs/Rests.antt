-- What is left of bytes.
use Rattle.std.specs.Prelude.{ℕ, List}

-- the bytes, and how many bytes of the input stand before them
pub record Rest : Type 0 where
  pub rest : List ℕ
  pub at : ℕ

-- What stands behind the bytes that were written before.
use Rattle.std.specs.Prelude.{◌≡◌, ℕ, List, ◌++◌}
use Rattle.x509_der.specs.Element.{element}

-- they are as they were, and something may stand behind them
pub record Appends (old new : List ℕ) : Type 0 where
  pub more : List ℕ
  pub behind : new ≡ old ++ more

-- they are as they were, and one element with a tag stands behind them (X.690, 8.1.1)
pub record AppendsElement (tag : ℕ) (old new : List ℕ) : Type 0 where
  pub content : List ℕ
  pub behind : new ≡ old ++ element tag content

-- The program's input: hexadecimal digits of bytes, of either case, with at most one line feed at the end.
use Rattle.std.specs.Prelude.{◌≡◌, ◌⊎◌, ℕ, List, [], ◌∷◌, ◌++◌, Ok}
use Rattle.hex.specs.Hex.{decode_of}

pub record IsTextOf (bytes input : List ℕ) : Type 0 where
  pub digits : List ℕ
  pub line : (input ≡ digits) ⊎ (input ≡ digits ++ 10 ∷ [])
  pub decoded : decode_of digits ≡ Ok bytes

-- the input is such a text of no bytes
abbrev pub IsNoText : List ℕ → Type 0
IsNoText input = (bytes : List ℕ) → IsTextOf bytes input → ⊥

-- the text has no line feed at its end
abbrev pub NoLineFeed : List ℕ → Type 0
NoLineFeed text = (front : List ℕ) → text ≡ front ++ 10 ∷ [] → ⊥

-- the digits are the text without one line feed at its end
abbrev pub IsWithoutLineFeed : List ℕ → List ℕ → Type 0
IsWithoutLineFeed text digits = (text ≡ digits ++ 10 ∷ []) ⊎ ((text ≡ digits) × NoLineFeed text)

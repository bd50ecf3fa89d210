-- Why a string begins with no element (X.690, 8.1).
use Rattle.std.specs.Prelude.{◌≡◌, ℕ, ◌<◌, ◌^◌, true, false, List, [], ◌∷◌, ◌++◌, length, ◌⊎◌}
use Rattle.x509_der_parts.specs.declared.errors.ReadError.{ReadError}
use Rattle.x509_der_parts.specs.declared.errors.ReadError.TheVariants.{Truncated, WrongTag, BadLength}
use Rattle.x509_der_parts.specs.Element.{digits, is_tag}

-- the tag is of several bytes (8.1.2.4)
pub record HighTag (string : List ℕ) : Type 0 where
  pub tag : ℕ
  pub rest : List ℕ
  pub bytes : string ≡ tag ∷ rest
  pub high : is_tag tag ≡ false

-- behind the tag stand no length digits of a number below 2^64: none at all, indefinite ones (8.1.3.6), or not the shortest (10.1)
pub record NoDigits (string : List ℕ) : Type 0 where
  pub tag : ℕ
  pub rest : List ℕ
  pub bytes : string ≡ tag ∷ rest
  pub low : is_tag tag ≡ true
  pub none : (n : ℕ) (q : List ℕ) → n < 2 ^ 64 → rest ≡ digits n ++ q → ⊥

-- less stands behind the length digits than they say
pub record CutShort (string : List ℕ) : Type 0 where
  pub tag : ℕ
  pub size : ℕ
  pub rest : List ℕ
  pub bytes : string ≡ tag ∷ (digits size ++ rest)
  pub low : is_tag tag ≡ true
  pub short : length rest < size

-- what each error says of the string
abbrev pub FirstFault : List ℕ → ReadError → Type 0
FirstFault string Truncated = (string ≡ []) ⊎ CutShort string
FirstFault string WrongTag = HighTag string
FirstFault string BadLength = NoDigits string
FirstFault string _ = ⊥

-- The forms of input.
use Rattle.std.specs.Prelude.{◌≡◌, ◌⊎◌, ℕ, ◌≤◌, ◌<◌, List, [], ◌∷◌, length, codes, Bool, true, All, Any, drop}
use Rattle.std.specs.Char.{is_ascii_whitespace}
use Rattle.std.specs.List.{prefix_len}
use Rattle.memchr.specs.Find.{OccursAt}
use Rattle.cimaroly_work.specs.declared.form.Form.{Form}
use Rattle.cimaroly_work.specs.declared.form.Form.TheVariants as form

-- 0 to 9, A to F, a to f
abbrev pub IsDigit : ℕ → Type 0
IsDigit b = ((48 ≤ b) × (b ≤ 57)) ⊎ ((65 ≤ b) × (b ≤ 70)) ⊎ ((97 ≤ b) × (b ≤ 102))

-- a space, a tab, a line feed, a form feed, a carriage return
abbrev pub IsSpace : ℕ → Type 0
IsSpace b = (b ≡ 32) ⊎ (b ≡ 9) ⊎ (b ≡ 10) ⊎ (b ≡ 12) ⊎ (b ≡ 13)

-- digits and white space, with at least one digit
abbrev pub IsHexadecimal : List ℕ → Type 0
IsHexadecimal bytes = All (λ b. IsDigit b ⊎ IsSpace b) bytes × Any IsDigit bytes

-- a symbol of base64, or what pads it: 0 to 9, A to Z, a to z, + / = (RFC 4648, 4)
abbrev pub IsSymbol : ℕ → Type 0
IsSymbol b = ((48 ≤ b) × (b ≤ 57)) ⊎ ((65 ≤ b) × (b ≤ 90)) ⊎ ((97 ≤ b) × (b ≤ 122)) ⊎ (b ≡ 43) ⊎ (b ≡ 47) ⊎ (b ≡ 61)

-- M, and one of A to P: the first six bits of 0x30, and the next two of it with any four
abbrev pub SequenceInFront : List ℕ → Type 0
SequenceInFront [] = ⊥
SequenceInFront (first ∷ []) = ⊥
SequenceInFront (first ∷ second ∷ rest) = (first ≡ 77) × (65 ≤ second) × (second ≤ 80)

-- the same, behind any white space
abbrev pub BeginsAsSequence : List ℕ → Type 0
BeginsAsSequence bytes = SequenceInFront (drop (prefix_len is_ascii_whitespace bytes) bytes)

-- symbols and white space, which begin as those of a SEQUENCE do
abbrev pub IsBase64 : List ℕ → Type 0
IsBase64 bytes = BeginsAsSequence bytes × All (λ b. IsSymbol b ⊎ IsSpace b) bytes

-- a control character that text has not: none of a tab, a line feed, a form feed, a carriage return, an escape
abbrev pub IsTextless : ℕ → Type 0
IsTextless b = (b < 32) × (b ≡ 9 → ⊥) × (b ≡ 10 → ⊥) × (b ≡ 12 → ⊥) × (b ≡ 13 → ⊥) × (b ≡ 27 → ⊥)

abbrev pub HasControl : List ℕ → Type 0
HasControl bytes = Any IsTextless bytes

-- a PEM block begins somewhere (RFC 7468, 3)
abbrev pub HasBlock : List ℕ → Type 0
HasBlock bytes = (at : ℕ) × OccursAt bytes (codes "-----BEGIN ") at

-- a SEQUENCE whose length is given in several bytes or not at all, which is no text; or whose length is that of the whole, which isn't text
abbrev pub IsSequence : List ℕ → Bool → Type 0
IsSequence [] is_whole = ⊥
IsSequence (tag ∷ []) is_whole = ⊥
IsSequence (tag ∷ l ∷ rest) is_whole = (tag ≡ 48) × (((128 ≤ l) × (l ≤ 136)) ⊎ ((is_whole ≡ true) × (length rest ≡ l) × (HasControl rest ⊎ (rest ≡ []))))

-- a PEM block begins in it, or it has none of the control characters that text has not
abbrev pub IsText : List ℕ → Type 0
IsText bytes = HasBlock bytes ⊎ (HasControl bytes → ⊥)

-- digits first, then what is surely no text, then base64 that is the whole, then text
abbrev pub IsForm : List ℕ → Bool → Form → Type 0
IsForm front is_whole form.Hexadecimal = IsHexadecimal front
IsForm front is_whole form.Der = (IsHexadecimal front → ⊥) × (IsSequence front is_whole ⊎ (((is_whole ≡ true) × IsBase64 front → ⊥) × (IsText front → ⊥)))
IsForm front is_whole form.Base64 = (IsHexadecimal front → ⊥) × (IsSequence front is_whole → ⊥) × (is_whole ≡ true) × IsBase64 front
IsForm front is_whole form.Pem = (IsHexadecimal front → ⊥) × (IsSequence front is_whole → ⊥) × ((is_whole ≡ true) × IsBase64 front → ⊥) × IsText front

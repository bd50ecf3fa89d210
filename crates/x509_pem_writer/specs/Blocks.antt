-- Blocks of PEM as they are written (RFC 7468, 2 and 3).
use Rattle.std.specs.Prelude.{ℕ, zero, suc, List, [], ◌∷◌, ◌++◌, length, take, drop}
use Rattle.base64.specs.Engines.{standard}
use Rattle.base64.specs.GeneralPurpose.{encode_of}

-- -----BEGIN LABEL-----, as a line
abbrev pub begin_line : List ℕ → List ℕ
begin_line label = 45 ∷ 45 ∷ 45 ∷ 45 ∷ 45 ∷ 66 ∷ 69 ∷ 71 ∷ 73 ∷ 78 ∷ 32 ∷ (label ++ 45 ∷ 45 ∷ 45 ∷ 45 ∷ 45 ∷ 10 ∷ [])

-- -----END LABEL-----, as a line
abbrev pub end_line : List ℕ → List ℕ
end_line label = 45 ∷ 45 ∷ 45 ∷ 45 ∷ 45 ∷ 69 ∷ 78 ∷ 68 ∷ 32 ∷ (label ++ 45 ∷ 45 ∷ 45 ∷ 45 ∷ 45 ∷ 10 ∷ [])

-- symbols in lines of 64, of which the last may be shorter, each with a line feed behind it; fuel is at least their number
unfoldable pub lines_from : ℕ → List ℕ → List ℕ
lines_from zero symbols = []
lines_from (suc fuel) [] = []
lines_from (suc fuel) (b ∷ r) = take 64 (b ∷ r) ++ 10 ∷ lines_from fuel (drop 64 (b ∷ r))

abbrev pub lines_of : List ℕ → List ℕ
lines_of symbols = lines_from (length symbols) symbols

-- the block: its first line, the bytes in base64 (RFC 4648, 4), and its last line
abbrev pub pem_of : (label bytes : List ℕ) → List ℕ
pem_of label bytes = begin_line label ++ (lines_of (encode_of standard bytes) ++ end_line label)

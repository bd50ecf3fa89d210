-- The lines of a text, and its white space (RFC 7468, 3).
use Rattle.std.specs.Prelude.{◌≡◌, ℕ, zero, suc, ◌+◌, ◌-◌, ◌^◌, min, List, [], ◌∷◌, Bool, true, false, All, ◌||◌, ◌&&◌, ◌==◌, if◌then◌else◌, length, slice_index}

-- what ends a line: CR, LF, or both, between which stands a line of nothing
abbrev pub is_line_end : ℕ → Bool
is_line_end x = x == 10 || x == 13

-- the first line of a text, with the byte that ends it
abbrev pub line_of : List ℕ → List ℕ
line_of [] = []
line_of (x ∷ xs) = if is_line_end x then x ∷ [] else x ∷ line_of xs

-- what stands behind it
abbrev pub behind_line : List ℕ → List ℕ
behind_line [] = []
behind_line (x ∷ xs) = if is_line_end x then xs else behind_line xs

-- no byte of it ends a line
abbrev pub IsInner : List ℕ → Type 0
IsInner part = All (λ x. is_line_end x ≡ false) part

-- W of the lax grammar: LF, CR, space, tab, vertical tab, form feed
abbrev pub is_white : ℕ → Bool
is_white x = is_line_end x || (x == 32 || x == 9 || x == 11 || x == 12)

abbrev pub IsWhite : List ℕ → Type 0
IsWhite s = All (λ x. is_white x ≡ true) s

-- a text without its white space
abbrev pub solid : List ℕ → List ℕ
solid [] = []
solid (x ∷ xs) = if is_white x then solid xs else x ∷ solid xs

-- a line of LF alone, which is the end of the line before it where that had a CR
abbrev pub is_feed : List ℕ → Bool
is_feed line = length line == 1 && slice_index line (length line - 1) == 10

abbrev pub ends_return : List ℕ → Bool
ends_return line = slice_index line (length line - 1) == 13

-- the number of the line behind line n, by whether that ended in CR; there are 2 ^ 64 numbers
abbrev pub number_behind : ℕ → Bool → List ℕ → ℕ
number_behind n returned line = if returned && is_feed line then n else min (n + 1) (2 ^ 64 - 1)

-- the number of the kth line of a text behind line n
abbrev pub number_at : ℕ → ℕ → Bool → List ℕ → ℕ
number_at zero n returned text = n
number_at (suc k) n returned text =
    number_at k (number_behind n returned (line_of text)) (ends_return (line_of text)) (behind_line text)

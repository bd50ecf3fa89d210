-- The characters of string types, a byte each, or two (X.680, clause 41).
use Rattle.std.specs.Prelude.{ℕ, ◌%◌, Bool, ◌&&◌, ◌||◌, ◌==◌, nat_le, nat_lt, codes, List, length}
use Rattle.std.specs.List.{list_all, list_any}

abbrev pub is_within : ℕ → ℕ → ℕ → Bool
is_within least most c = nat_le least c && nat_le c most

-- a letter, a digit, a space, or one of ' ( ) + , - . / : = ? (X.680, 41.4)
abbrev pub is_printable : ℕ → Bool
is_printable c = is_within 65 90 c || is_within 97 122 c || is_within 48 57 c || list_any (λ x. x == c) (codes " '()+,-./:=?")

-- the characters of PrintableString
abbrev pub are_printable : List ℕ → Bool
are_printable bytes = list_all is_printable bytes

-- the characters of IA5String: those of ASCII, control characters too (X.680, 41, table 8)
abbrev pub are_ascii : List ℕ → Bool
are_ascii bytes = list_all (λ c. nat_lt c 128) bytes

-- the characters of BMPString: any of two bytes each (X.680, 41.15)
abbrev pub are_pairs : List ℕ → Bool
are_pairs bytes = (length bytes % 2) == 0

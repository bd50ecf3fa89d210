-- UTF-16 (RFC 2781): one unit of 16 bits for a character below 2^16, and a pair of surrogates for any other.
use Rattle.std.specs.Prelude.{ℕ, ◌+◌, ◌*◌, ◌/◌, ◌%◌, List, [], ◌∷◌, flat_map}
use Rattle.std.specs.Char.Escape.{encode_utf16}
use Rattle.std.specs.Char.Utf16.{utf16_lossy_chars}
use Rattle.std.specs.Str.{chars}

-- the two bytes of a unit, the high one first
abbrev pub unit_bytes : ℕ → List ℕ
unit_bytes u = (u / 256) ∷ (u % 256) ∷ []

-- the units of a text, which is in UTF-8
abbrev pub units : List ℕ → List ℕ
units text = flat_map encode_utf16 (chars text)

-- the bytes of a text's units
abbrev pub utf16_bytes : List ℕ → List ℕ
utf16_bytes text = flat_map unit_bytes (units text)

-- the units of UTF-16 that bytes spell, the high byte of each first
abbrev pub units_in : List ℕ → List ℕ
units_in [] = []
units_in (high ∷ []) = []
units_in (high ∷ low ∷ rest) = (high * 256 + low) ∷ units_in rest

-- their characters (RFC 2781, 2.2): a pair of surrogates is one, and for each surrogate without a partner there is U+FFFD
unfoldable pub lossy_chars : List ℕ → List ℕ
lossy_chars bytes = utf16_lossy_chars (units_in bytes)

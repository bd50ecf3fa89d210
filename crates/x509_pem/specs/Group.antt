-- What each of four base64 symbols adds to a number, and what the number then says.
use Rattle.std.specs.Prelude.{◌≡◌, ℕ, ◌+◌, ◌*◌, ◌/◌, ◌%◌, ◌<◌, ◌⊎◌, List, [], ◌∷◌, take, slice_index}
use Rattle.base64.specs.Rfc4648.{encode_group, encode_symbols}
use Rattle.base64.specs.Engines.{standard}
use Rattle.base64.specs.GeneralPurpose.{IsBytes, engine_symbols}

-- what a symbol of each place adds, by its value
abbrev pub first_adds : ℕ → ℕ
first_adds value = value * 4

abbrev pub second_adds : ℕ → ℕ
second_adds value = value / 16 + value % 16 * 4096

abbrev pub third_adds : ℕ → ℕ
third_adds value = value / 4 * 256 + value % 4 * 4194304

abbrev pub fourth_adds : ℕ → ℕ
fourth_adds value = value * 65536

-- a symbol adds what its value says, and a byte that is none 2 ^ 24
abbrev pub SymbolAdds : (ℕ → ℕ) → ℕ → ℕ → Type 0
SymbolAdds adds symbol sum =
    (sum ≡ 16777216) ⊎ ((value : ℕ) × (value < 64) × (slice_index (engine_symbols standard) value ≡ symbol) × (sum ≡ adds value))

-- a sum below 2 ^ 24 has the three bytes that the four symbols encode, the first one lowest
abbrev pub IsGroup : ℕ → ℕ → ℕ → ℕ → ℕ → Type 0
IsGroup sum first second third fourth =
    sum < 16777216
    → encode_group (engine_symbols standard) (sum % 256) (sum / 256 % 256) (sum / 65536) ≡ first ∷ second ∷ third ∷ fourth ∷ []

-- the symbols before a group are what the bytes before it encode
abbrev pub DecodedTo : List ℕ → List ℕ → ℕ → Type 0
DecodedTo line bytes group =
    (take (4 * group) line ≡ encode_symbols (engine_symbols standard) (take (3 * group) bytes)) × IsBytes bytes

-- What stands behind the full lines of a block.
use Rattle.std.specs.Prelude.{◌≡◌, ℕ, List, ◌++◌}
use Rattle.base64.specs.Engines.{standard}
use Rattle.base64.specs.GeneralPurpose.{IsBytes, encode_of}

-- behind the old bytes stand those that the text encodes
abbrev pub IsDecoded : List ℕ → List ℕ → List ℕ → Type 0
IsDecoded text old new =
    (more : List ℕ) × (new ≡ old ++ more) × (text ≡ encode_of standard more) × IsBytes more

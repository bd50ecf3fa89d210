-- Which string type the value of an attribute has where a description says none (RFC 5280, A.1).
use Rattle.std.specs.Prelude.{◌≡◌, ◌⊎◌, ℕ, List, [], ◌∷◌}

-- a PrintableString: countryName, serialNumber and dnQualifier
abbrev pub IsPrintable : List ℕ → Type 0
IsPrintable arcs = (arcs ≡ 2 ∷ 5 ∷ 4 ∷ 6 ∷ []) ⊎ (arcs ≡ 2 ∷ 5 ∷ 4 ∷ 5 ∷ []) ⊎ (arcs ≡ 2 ∷ 5 ∷ 4 ∷ 46 ∷ [])

-- an IA5String: emailAddress and domainComponent
abbrev pub IsIa5 : List ℕ → Type 0
IsIa5 arcs = (arcs ≡ 1 ∷ 2 ∷ 840 ∷ 113549 ∷ 1 ∷ 9 ∷ 1 ∷ []) ⊎ (arcs ≡ 0 ∷ 9 ∷ 2342 ∷ 19200300 ∷ 100 ∷ 1 ∷ 25 ∷ [])

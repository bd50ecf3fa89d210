-- The member of a description that makes an authority (RFC 5280, 4.2.1.9).
use Rattle.std.specs.Prelude.{ℕ, List, [], ◌∷◌, ◌++◌, Option, Some, None, true, codes, decimal}
use Rattle.json.specs.Token.{Token, begin_object, end_object, key, number, boolean}

-- "basicConstraints": {"ca": true
abbrev pub authority_front : List Token
authority_front = key (codes "basicConstraints") ∷ begin_object ∷ key (codes "ca") ∷ boolean true ∷ []

-- "pathLen": n}
abbrev pub length_behind : ℕ → List Token
length_behind n = key (codes "pathLen") ∷ number (decimal n) ∷ end_object ∷ []

-- "basicConstraints": {"ca": true}, or with "pathLen"
abbrev pub authority : Option ℕ → List Token
authority None = authority_front ++ end_object ∷ []
authority (Some n) = authority_front ++ length_behind n

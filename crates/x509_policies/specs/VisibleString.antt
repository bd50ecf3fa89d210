-- The characters of VisibleString (X.680, 41, table 8).
use Rattle.std.specs.Prelude.{ℕ, Bool, List}
use Rattle.std.specs.List.{list_all}
use Rattle.x509_prim.specs.CharSets.{is_within}

-- those of ASCII that are printed, and the space: 20 to 7E (ISO 646, registrations 2 and 6)
abbrev pub are_visible : List ℕ → Bool
are_visible bytes = list_all (is_within 32 126) bytes

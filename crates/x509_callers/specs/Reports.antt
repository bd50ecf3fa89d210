-- What deviations print.
use Rattle.std.specs.Prelude.{ℕ, List, [], ◌∷◌, ◌++◌, codes, flat_map}
use Rattle.std.specs.Fmt.{decimal}
use Rattle.picky_asn1_x509.specs.Deviations.{kind_name}
use Rattle.picky_asn1_x509.specs.Types.{Place}

-- the name of the kind, and the bytes that the deviation covers
abbrev pub place_line : Place → List ℕ
place_line place = kind_name place.kind ++ (codes ": bytes " ++ (decimal place.start ++ (codes ".." ++ (decimal place.end ++ 10 ∷ []))))

-- a line for each
abbrev pub place_lines : List Place → List ℕ
place_lines places = flat_map place_line places

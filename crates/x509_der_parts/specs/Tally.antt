-- What stands in a spelling besides its value: deviations, each with its place, and headers.
use Rattle.std.specs.Prelude.{ℕ, ◌+◌, ◌&&◌, ◌==◌, nat_le, Bool, List, [], ◌∷◌, ◌++◌, map}
use Rattle.std.specs.List.{count_by, filter}
use Rattle.x509_der_parts.specs.declared.deviation.Deviation.{Deviation}
use Rattle.x509_der_parts.specs.declared.deviation.Place.{Place}
use Rattle.x509_der_parts.specs.Deviations.{kind_index}

-- a deviation of a kind, and where it stands in the spelling: how many bytes stand before its start, and before its end
abbrev pub Mark : Type 0
Mark = Place

-- the marks by start and then by kind, and how many headers there are
pub record Tally : Type 0 where
  pub marks : List Mark
  pub headers : ℕ

-- a mark behind n more bytes
unfoldable pub moved : ℕ → Mark → Mark
moved n m = record { kind = m.kind; start = m.start + n; end = m.end + n }

unfoldable pub none : Tally
none = record { marks = []; headers = 0 }

-- the sum of two tallies, the second behind the first part's n bytes
unfoldable pub joined : ℕ → Tally → Tally → Tally
joined n a b = record { marks = a.marks ++ map (moved n) b.marks; headers = a.headers + b.headers }

-- the tally of an element from that of its content, behind a header of n bytes
unfoldable pub inside : ℕ → Tally → Tally
inside n y = record { marks = map (moved n) y.marks; headers = y.headers + 1 }

-- a mark of each kind over the whole of n bytes
abbrev pub over : ℕ → List Deviation → List Mark
over n [] = []
over n (k ∷ ks) = record { kind = k; start = 0; end = n } ∷ over n ks

-- the tally with a mark of each kind over the whole of n bytes
unfoldable pub marked : List Deviation → ℕ → Tally → Tally
marked ks n y = record { marks = over n ks ++ y.marks; headers = y.headers }

-- how many marks are of the kind with the index i
abbrev pub count_of : ℕ → List Mark → ℕ
count_of i ms = count_by (λ (m : Mark). kind_index m.kind == i) ms

-- the ten counts, in the order of the kinds
abbrev pub counts_of : List Mark → List ℕ
counts_of ms =
    count_of 0 ms ∷ count_of 1 ms ∷ count_of 2 ms ∷ count_of 3 ms ∷ count_of 4 ms ∷ count_of 5 ms ∷ count_of 6 ms ∷ count_of 7 ms ∷ count_of 8 ms ∷ count_of 9 ms ∷ []

-- a mark lies between two places
abbrev pub lies : ℕ → ℕ → Mark → Bool
lies from to m = nat_le from m.start && nat_le m.end to

-- the marks that lie between two places
unfoldable pub lying : ℕ → ℕ → List Mark → List Mark
lying from to ms = filter (lies from to) ms

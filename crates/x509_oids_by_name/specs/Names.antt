-- Object identifiers by the names that the standards give them, and by their arcs.
use Rattle.std.specs.Prelude.{◌≡◌, ℕ, cond, List, [], ◌∷◌, Option, Some, None, MatchOption, bytes_eq, map}
use Rattle.std.specs.Option.{option_or}
use Rattle.x509_der.specs.ObjectIdentifier.{IsLawful, dotted}
use Rattle.x509_oids_by_name.specs.declared.algorithms.TheConstants as algorithms
use Rattle.x509_oids_by_name.specs.declared.further.TheConstants as further
use Rattle.x509_oids_by_name.specs.declared.objects.TheConstants as objects

-- a line of a table: a name, and the arcs that it stands for
abbrev pub Line : Type 0
Line = List ℕ × List ℕ

-- the arcs of a line, if its name is this one
abbrev pub arcs_if_named : List ℕ → Line → Option (List ℕ)
arcs_if_named name l = cond (bytes_eq l.0 name) (Some l.1) None

-- the arcs beside the first line with a name
abbrev pub arcs_beside : List ℕ → List Line → Option (List ℕ)
arcs_beside name [] = None
arcs_beside name (l ∷ ls) = option_or (arcs_if_named name l) (arcs_beside name ls)

-- and in the first of some tables
abbrev pub arcs_among : List ℕ → List (List Line) → Option (List ℕ)
arcs_among name [] = None
arcs_among name (t ∷ ts) = option_or (arcs_beside name t) (arcs_among name ts)

-- the tables, by what they hold
abbrev pub algorithm_tables : List (List Line)
algorithm_tables = map (λ t. map (λ l. (l.0.now, l.1.now)) t.now) algorithms.TABLES.now

abbrev pub object_tables : List (List Line)
object_tables = map (λ t. map (λ l. (l.0.now, l.1.now)) t.now) objects.TABLES.now

abbrev pub further_tables : List (List Line)
further_tables = map (λ t. map (λ l. (l.0.now, l.1.now)) t.now) further.TABLES.now

-- what a name stands for: algorithms first, then other objects, then what no constant of the crates below has
abbrev pub arcs_of : List ℕ → Option (List ℕ)
arcs_of name = option_or (arcs_among name algorithm_tables) (option_or (arcs_among name object_tables) (arcs_among name further_tables))

-- the arcs that a text names: by a name, or by themselves
abbrev pub Names : List ℕ → List ℕ → Type 0
Names text arcs = MatchOption (arcs_of text) (IsLawful arcs × (text ≡ dotted arcs)) (λ a. arcs ≡ a)

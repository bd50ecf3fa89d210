-- The names of object identifiers, by their arcs: the last, and those before it.
use Rattle.std.specs.Prelude.{◌≡◌, ℕ, cond, nat_eq, List, [], ◌∷◌, ◌++◌, Option, Some, None, map}
use Rattle.std.specs.Option.{option_or}
use Rattle.std.specs.Cmp.Lexicographic.{pointwise}
use Rattle.x509_oid_names.specs.declared.itu.TheConstants as itu
use Rattle.x509_oid_names.specs.declared.members.TheConstants as members
use Rattle.x509_oid_names.specs.declared.organizations.TheConstants as organizations

-- last arcs, and the name beside each
abbrev pub Names : Type 0
Names = List (ℕ × List ℕ)

-- the name beside an arc, if it is this one
abbrev pub name_if : ℕ → List ℕ → ℕ → Option (List ℕ)
name_if arc name last = cond (nat_eq arc last) (Some name) None

-- and beside the first that is
abbrev pub name_beside : ℕ → Names → Option (List ℕ)
name_beside last [] = None
name_beside last (n ∷ ns) = option_or (name_if n.0 n.1 last) (name_beside last ns)

-- the arcs before the last, and the names under them
abbrev pub Table : Type 0
Table = List (List ℕ × Names)

-- the name in a line of a table, if its arcs are these
abbrev pub name_under : List ℕ → ℕ → List ℕ × Names → Option (List ℕ)
name_under front last l = cond (pointwise nat_eq l.0 front) (name_beside last l.1) None

-- and in the first line that has one
abbrev pub name_among : List ℕ → ℕ → Table → Option (List ℕ)
name_among front last [] = None
name_among front last (l ∷ ls) = option_or (name_under front last l) (name_among front last ls)

-- the tables, by what they hold
abbrev pub itu_table : Table
itu_table = map (λ l. (l.0.now, map (λ n. (n.0, n.1.now)) l.1.now)) itu.TABLE.now

abbrev pub organizations_table : Table
organizations_table = map (λ l. (l.0.now, map (λ n. (n.0, n.1.now)) l.1.now)) organizations.TABLE.now

abbrev pub members_table : Table
members_table = map (λ l. (l.0.now, map (λ n. (n.0, n.1.now)) l.1.now)) members.TABLE.now

-- the name by the arcs before the last, and by that
abbrev pub name_by : List ℕ → ℕ → Option (List ℕ)
name_by front last = option_or (name_among front last itu_table) (option_or (name_among front last organizations_table) (name_among front last members_table))

-- what the name of an identifier is, if it has one
pub record IsNameOf (arcs : List ℕ) (name : Option (List ℕ)) : Type 0 where
  pub without : arcs ≡ [] → name ≡ None
  pub by : (front : List ℕ) (last : ℕ) → arcs ≡ front ++ (last ∷ []) → name ≡ name_by front last

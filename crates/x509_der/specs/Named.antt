-- Values that are named by the arcs of object identifiers.
use Rattle.std.specs.Prelude.{ℕ, if◌then◌else◌, List, [], ◌∷◌, Option, Some, None}
use Rattle.x509_der.specs.ObjectIdentifier.{is_arcs}

-- the first value of a list whose arcs these are, if any
abbrev pub named : {V : Type 0} → (V → List ℕ) → List V → List ℕ → Option V
named of [] arcs = None
named of (v ∷ vs) arcs = if is_arcs arcs (of v) then Some v else named of vs arcs

-- Facts about basic constraints.
use Rattle.std.proofs.Common.{◌≡◌, ℕ, ◌||◌, eqb, true, false, Bool, Option, ap, arith}
use Rattle.std.proofs.lemmas.Bool.Decides.{nat_tests}
use Rattle.picky_asn1_x509_parts.specs.BasicConstraints.{Constraints, constraints_parts}

abbrev pub constraints_of : Option Bool × Option ℕ → Constraints
constraints_of f = record { ca = f.0; pathlen = f.1 }

pub constraints_same : (v w : Constraints) → constraints_parts v ≡ constraints_parts w → v ≡ w
constraints_same v w e = ap constraints_of e

-- a path length is told from a truth value by its tag
pub pathlen_apart : (c : ℕ) → eqb c 2 ≡ true → (false || eqb c 1) ≡ false
pathlen_apart c h = grind (arith, nat_tests)

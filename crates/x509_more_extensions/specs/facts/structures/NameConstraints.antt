-- Facts about NameConstraints, written by tools/structures.py from declarations.asn1.
use Rattle.std.proofs.Common.{◌≡◌, ap, ℕ, ◌||◌, eqb, true, false, arith}
use Rattle.std.proofs.lemmas.Bool.Decides.{nat_tests}
use Rattle.x509_more_extensions.specs.declared.structures.name_constraints.NameConstraints.{NameConstraints}
use Rattle.x509_more_extensions.specs.NameConstraints.{Fields, name_constraints_parts}

abbrev pub name_constraints_of : {A : Type 0} → Fields A → NameConstraints A
name_constraints_of f = record { permitted_subtrees = f.0; excluded_subtrees = f.1 }

pub name_constraints_same : {A : Type 0} (v w : NameConstraints A) → name_constraints_parts v ≡ name_constraints_parts w → v ≡ w
name_constraints_same v w e = ap name_constraints_of e

pub name_constraints_permitted_subtrees_apart : (c : ℕ) → eqb c 161 ≡ true → (false || eqb c 160) ≡ false
name_constraints_permitted_subtrees_apart c h = grind (arith, nat_tests)

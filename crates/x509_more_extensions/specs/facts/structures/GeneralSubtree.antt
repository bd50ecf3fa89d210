-- Facts about GeneralSubtree, written by tools/structures.py from declarations.asn1.
use Rattle.std.proofs.Common.{◌≡◌, ap, ℕ, ◌||◌, eqb, true, false, arith}
use Rattle.std.proofs.lemmas.Bool.Decides.{nat_tests}
use Rattle.x509_more_extensions.specs.declared.structures.general_subtree.GeneralSubtree.{GeneralSubtree}
use Rattle.x509_more_extensions.specs.GeneralSubtree.{Fields, general_subtree_parts}

abbrev pub general_subtree_of : {A : Type 0} → Fields A → GeneralSubtree A
general_subtree_of f = record { base = f.0; minimum = f.1.0; maximum = f.1.1 }

pub general_subtree_same : {A : Type 0} (v w : GeneralSubtree A) → general_subtree_parts v ≡ general_subtree_parts w → v ≡ w
general_subtree_same v w e = ap general_subtree_of e

pub general_subtree_minimum_apart : (c : ℕ) → eqb c 129 ≡ true → (false || eqb c 128) ≡ false
general_subtree_minimum_apart c h = grind (arith, nat_tests)

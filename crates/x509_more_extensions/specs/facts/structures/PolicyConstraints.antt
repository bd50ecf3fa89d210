-- Facts about PolicyConstraints, written by tools/structures.py from declarations.asn1.
use Rattle.std.proofs.Common.{◌≡◌, ap, ℕ, ◌||◌, eqb, true, false, arith}
use Rattle.std.proofs.lemmas.Bool.Decides.{nat_tests}
use Rattle.x509_more_extensions.specs.declared.structures.policy_constraints.PolicyConstraints.{PolicyConstraints}
use Rattle.x509_more_extensions.specs.PolicyConstraints.{Fields, policy_constraints_parts}

abbrev pub policy_constraints_of : {A : Type 0} → Fields A → PolicyConstraints A
policy_constraints_of f = record { require_explicit_policy = f.0; inhibit_policy_mapping = f.1 }

pub policy_constraints_same : {A : Type 0} (v w : PolicyConstraints A) → policy_constraints_parts v ≡ policy_constraints_parts w → v ≡ w
policy_constraints_same v w e = ap policy_constraints_of e

pub policy_constraints_require_explicit_policy_apart : (c : ℕ) → eqb c 129 ≡ true → (false || eqb c 128) ≡ false
policy_constraints_require_explicit_policy_apart c h = grind (arith, nat_tests)

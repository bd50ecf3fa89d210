-- Facts about IssuingDistributionPoint, written by tools/structures.py from declarations.asn1.
use Rattle.std.proofs.Common.{◌≡◌, ap, ℕ, ◌||◌, eqb, true, false, arith}
use Rattle.std.proofs.lemmas.Bool.Decides.{nat_tests}
use Rattle.x509_distribution_points.specs.declared.structures.issuing_distribution_point.IssuingDistributionPoint.{IssuingDistributionPoint}
use Rattle.x509_distribution_points.specs.IssuingDistributionPoint.{Fields, issuing_distribution_point_parts}

abbrev pub issuing_distribution_point_of : {A : Type 0} → Fields A → IssuingDistributionPoint A
issuing_distribution_point_of f = record { distribution_point = f.0; only_contains_user_certs = f.1.0; only_contains_ca_certs = f.1.1.0; only_some_reasons = f.1.1.1.0; indirect_crl = f.1.1.1.1.0; only_contains_attribute_certs = f.1.1.1.1.1 }

pub issuing_distribution_point_same : {A : Type 0} (v w : IssuingDistributionPoint A) → issuing_distribution_point_parts v ≡ issuing_distribution_point_parts w → v ≡ w
issuing_distribution_point_same v w e = ap issuing_distribution_point_of e

pub issuing_distribution_point_distribution_point_apart : (c : ℕ) → (eqb c 129 || (eqb c 130 || (eqb c 131 || (eqb c 132 || eqb c 133)))) ≡ true → (false || eqb c 160) ≡ false
issuing_distribution_point_distribution_point_apart c h = grind (arith, nat_tests)

pub issuing_distribution_point_only_contains_user_certs_apart : (c : ℕ) → (eqb c 130 || (eqb c 131 || (eqb c 132 || eqb c 133))) ≡ true → (false || eqb c 129) ≡ false
issuing_distribution_point_only_contains_user_certs_apart c h = grind (arith, nat_tests)

pub issuing_distribution_point_only_contains_ca_certs_apart : (c : ℕ) → (eqb c 131 || (eqb c 132 || eqb c 133)) ≡ true → (false || eqb c 130) ≡ false
issuing_distribution_point_only_contains_ca_certs_apart c h = grind (arith, nat_tests)

pub issuing_distribution_point_only_some_reasons_apart : (c : ℕ) → (eqb c 132 || eqb c 133) ≡ true → (false || eqb c 131) ≡ false
issuing_distribution_point_only_some_reasons_apart c h = grind (arith, nat_tests)

pub issuing_distribution_point_indirect_crl_apart : (c : ℕ) → eqb c 133 ≡ true → (false || eqb c 132) ≡ false
issuing_distribution_point_indirect_crl_apart c h = grind (arith, nat_tests)

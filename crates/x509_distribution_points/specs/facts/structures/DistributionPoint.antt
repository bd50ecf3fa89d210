-- Facts about DistributionPoint, written by tools/structures.py from declarations.asn1.
use Rattle.std.proofs.Common.{◌≡◌, ap, ℕ, ◌||◌, eqb, true, false, arith}
use Rattle.std.proofs.lemmas.Bool.Decides.{nat_tests}
use Rattle.x509_distribution_points.specs.declared.structures.distribution_point.DistributionPoint.{DistributionPoint}
use Rattle.x509_distribution_points.specs.DistributionPoint.{Fields, distribution_point_parts}

abbrev pub distribution_point_of : {A : Type 0} → Fields A → DistributionPoint A
distribution_point_of f = record { distribution_point = f.0; reasons = f.1.0; crl_issuer = f.1.1 }

pub distribution_point_same : {A : Type 0} (v w : DistributionPoint A) → distribution_point_parts v ≡ distribution_point_parts w → v ≡ w
distribution_point_same v w e = ap distribution_point_of e

pub distribution_point_distribution_point_apart : (c : ℕ) → (eqb c 129 || eqb c 162) ≡ true → (false || eqb c 160) ≡ false
distribution_point_distribution_point_apart c h = grind (arith, nat_tests)

pub distribution_point_reasons_apart : (c : ℕ) → eqb c 162 ≡ true → (false || eqb c 129) ≡ false
distribution_point_reasons_apart c h = grind (arith, nat_tests)

-- Facts about DistributionPointName, written by tools/structures.py from declarations.asn1.
use Rattle.std.proofs.Common.{◌≡◌, ℕ, eqb, true, false, refl, arith}
use Rattle.std.proofs.lemmas.Bool.Decides.{nat_tests}
use Rattle.x509_der.specs.Types.choice.{First, Second}
use Rattle.x509_der.specs.facts.Lists.{same_one}
use Rattle.x509_distribution_points.specs.declared.structures.distribution_point_name.DistributionPointName.{DistributionPointName}
use Rattle.x509_distribution_points.specs.DistributionPointName.{Fields, distribution_point_name_parts}
use Rattle.x509_distribution_points.specs.declared.structures.distribution_point_name.DistributionPointName.TheVariants as variant

abbrev pub distribution_point_name_of : {A : Type 0} → Fields A → DistributionPointName A
distribution_point_name_of (First v) = variant.FullName v
distribution_point_name_of (Second v) = variant.NameRelativeToCrlIssuer v

distribution_point_name_made : {A : Type 0} (v : DistributionPointName A) → distribution_point_name_of (distribution_point_name_parts v) ≡ v
distribution_point_name_made (variant.FullName v) = refl
distribution_point_name_made (variant.NameRelativeToCrlIssuer v) = refl

pub distribution_point_name_same : {A : Type 0} (v w : DistributionPointName A) → distribution_point_name_parts v ≡ distribution_point_name_parts w → v ≡ w
distribution_point_name_same = same_one distribution_point_name_parts distribution_point_name_of distribution_point_name_made

pub distribution_point_name_whole : (A : Type 0) (f : Fields A) → distribution_point_name_parts (distribution_point_name_of {A = A} f) ≡ f
distribution_point_name_whole A (First v) = refl
distribution_point_name_whole A (Second v) = refl

pub distribution_point_name_full_name_apart : (c : ℕ) → eqb c 160 ≡ true → eqb c 161 ≡ false
distribution_point_name_full_name_apart c h = grind (arith, nat_tests)

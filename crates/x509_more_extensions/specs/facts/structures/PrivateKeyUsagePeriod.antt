-- Facts about PrivateKeyUsagePeriod, written by tools/structures.py from declarations.asn1.
use Rattle.std.proofs.Common.{◌≡◌, ap, ℕ, ◌||◌, eqb, true, false, arith}
use Rattle.std.proofs.lemmas.Bool.Decides.{nat_tests}
use Rattle.x509_more_extensions.specs.declared.structures.private_key_usage_period.PrivateKeyUsagePeriod.{PrivateKeyUsagePeriod}
use Rattle.x509_more_extensions.specs.PrivateKeyUsagePeriod.{Fields, private_key_usage_period_parts}

abbrev pub private_key_usage_period_of : Fields → PrivateKeyUsagePeriod
private_key_usage_period_of f = record { not_before = f.0; not_after = f.1 }

pub private_key_usage_period_same : (v w : PrivateKeyUsagePeriod) → private_key_usage_period_parts v ≡ private_key_usage_period_parts w → v ≡ w
private_key_usage_period_same v w e = ap private_key_usage_period_of e

pub private_key_usage_period_not_before_apart : (c : ℕ) → eqb c 129 ≡ true → (false || eqb c 128) ≡ false
private_key_usage_period_not_before_apart c h = grind (arith, nat_tests)

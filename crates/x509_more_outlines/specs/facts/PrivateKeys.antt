-- Private keys with the same parts are the same.
use Rattle.std.proofs.Common.{◌≡◌, ap, ℕ, ◌||◌, eqb, true, false, arith}
use Rattle.std.proofs.lemmas.Bool.Decides.{nat_tests}
use Rattle.x509_more_outlines.specs.PrivateKeys.{PrivateKeyFields, private_key_parts}
use Rattle.x509_more_outlines.specs.declared.private_key_outline.PrivateKeyOutline.{PrivateKeyOutline}

abbrev pub private_key_from : {A : Type 0} → PrivateKeyFields A → PrivateKeyOutline A
private_key_from f = record { version = f.0; private_key_algorithm = f.1.0; private_key = f.1.1.0; attributes = f.1.1.1.0; public_key = f.1.1.1.1 }

pub private_key_same : {A : Type 0} (v w : PrivateKeyOutline A) → private_key_parts v ≡ private_key_parts w → v ≡ w
private_key_same v w e = ap private_key_from e

-- attributes are told from a public key by their tag
pub attributes_apart : (c : ℕ) → (eqb c 129 || eqb c 161) ≡ true → (false || eqb c 160) ≡ false
attributes_apart c h = grind (arith, nat_tests)

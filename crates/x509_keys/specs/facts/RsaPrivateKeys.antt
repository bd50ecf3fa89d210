-- RSA private keys with the same fields are the same.
use Rattle.std.proofs.Common.{◌≡◌, ap}
use Rattle.x509_keys.specs.declared.rsa_private_key.RsaPrivateKey.{RsaPrivateKey}
use Rattle.x509_keys.specs.RsaPrivateKeys.{PrivateFields, private_parts}

abbrev pub private_key_of : {A : Type 0} → PrivateFields → RsaPrivateKey A
private_key_of f = record {
  version = f.0;
  modulus = f.1.0;
  public_exponent = f.1.1.0;
  private_exponent = f.1.1.1.0;
  prime_1 = f.1.1.1.1.0;
  prime_2 = f.1.1.1.1.1.0;
  exponent_1 = f.1.1.1.1.1.1.0;
  exponent_2 = f.1.1.1.1.1.1.1.0;
  coefficient = f.1.1.1.1.1.1.1.1;
}

pub private_key_same : {A : Type 0} (v w : RsaPrivateKey A) → private_parts v ≡ private_parts w → v ≡ w
private_key_same v w e = ap private_key_of e

-- RSA public keys with the same fields are the same.
use Rattle.std.proofs.Common.{◌≡◌, ap}
use Rattle.x509_keys.specs.declared.rsa_public_key.RsaPublicKey.{RsaPublicKey}
use Rattle.x509_keys.specs.RsaPublicKeys.{PublicFields, public_parts}

abbrev pub public_key_of : {A : Type 0} → PublicFields → RsaPublicKey A
public_key_of f = record { modulus = f.0; public_exponent = f.1 }

pub public_key_same : {A : Type 0} (v w : RsaPublicKey A) → public_parts v ≡ public_parts w → v ≡ w
public_key_same v w e = ap public_key_of e

-- Public keys with the same parts are the same.
use Rattle.std.proofs.Common.{◌≡◌, ap}
use Rattle.x509_outline_parts.specs.PublicKeys.{Fields, key_parts}
use Rattle.x509_outline_parts.specs.declared.public_key_outline.PublicKeyOutline.{PublicKeyOutline}

abbrev pub key_of : {A : Type 0} → Fields A → PublicKeyOutline A
key_of f = record { algorithm = f.0; subject_public_key = f.1 }

pub key_same : {A : Type 0} (v w : PublicKeyOutline A) → key_parts v ≡ key_parts w → v ≡ w
key_same v w e = ap key_of e

-- The times between which a certificate is valid.
use Rattle.std.proofs.Common.{◌≡◌, ap}
use Rattle.x509_names_parts.specs.declared.validity.Validity.{Validity}
use Rattle.x509_names_parts.specs.declared.time.Time.{Time}
use Rattle.x509_names_parts.specs.Validities.{validity_parts}

abbrev pub validity_of : Time × Time → Validity
validity_of f = record { not_before = f.0; not_after = f.1 }

pub validity_same : (v w : Validity) → validity_parts v ≡ validity_parts w → v ≡ w
validity_same v w e = ap validity_of e

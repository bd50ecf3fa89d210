-- Certificates with the same parts are the same.
use Rattle.std.proofs.Common.{◌≡◌, ap}
use Rattle.x509_outline.specs.Certificates.{CertificateFields, certificate_parts}
use Rattle.x509_outline.specs.declared.certificate_outline.CertificateOutline.{CertificateOutline}

abbrev pub certificate_from : {A : Type 0} → CertificateFields A → CertificateOutline A
certificate_from f = record { tbs_certificate = f.0; signature_algorithm = f.1.0; signature_value = f.1.1 }

pub certificate_same : {A : Type 0} (v w : CertificateOutline A) → certificate_parts v ≡ certificate_parts w → v ≡ w
certificate_same v w e = ap certificate_from e

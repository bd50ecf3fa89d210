-- Revocation lists with the same parts are the same.
use Rattle.std.proofs.Common.{◌≡◌, ap}
use Rattle.x509_list_outlines.specs.CertificateLists.{ListFields, list_parts}
use Rattle.x509_list_outlines.specs.declared.certificate_list_outline.CertificateListOutline.{CertificateListOutline}

abbrev pub list_from : {A : Type 0} → ListFields A → CertificateListOutline A
list_from f = record { tbs_cert_list = f.0; signature_algorithm = f.1.0; signature_value = f.1.1 }

pub list_same : {A : Type 0} (v w : CertificateListOutline A) → list_parts v ≡ list_parts w → v ≡ w
list_same v w e = ap list_from e

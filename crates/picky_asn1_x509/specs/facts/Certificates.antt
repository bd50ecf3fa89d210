-- Certificates with the same parts are the same, and what is written of one.
use Rattle.std.proofs.Common.{◌≡◌, ap}
use Rattle.x509_der.specs.Element.{element}
use Rattle.x509_der.specs.BitString.{bit_content}
use Rattle.std.proofs.Common.{◌++◌}
use Rattle.x509_der.specs.facts.Lists.{same_append}
use Rattle.x509_keys.specs.AlgorithmIdentifier.{written_fields}
use Rattle.x509_keys.specs.facts.AlgorithmIdentifier.{algorithm_agrees}
use Rattle.picky_asn1_x509.specs.Certificates.{SignatureFields, signature_fields, signature_bytes, CertificateFields, certificate_parts, certificate, certificate_bytes}
use Rattle.picky_asn1_x509.specs.declared.certificate.Certificate.{Certificate}
use Rattle.picky_asn1_x509.specs.facts.TbsCertificates.{tbs_agrees}

abbrev pub certificate_from : {A : Type 0} → CertificateFields A → Certificate A
certificate_from f = record { tbs_certificate = f.0; signature_algorithm = f.1.0; signature_value = f.1.1 }

pub certificate_same : {A : Type 0} (v w : Certificate A) → certificate_parts v ≡ certificate_parts w → v ≡ w
certificate_same v w e = ap certificate_from e

pub signature_agrees : {A : Type 0} (f : SignatureFields A) → signature_fields.strict f ≡ signature_bytes f
signature_agrees f = ap (λ x. x ++ element 3 (bit_content f.1)) (algorithm_agrees (written_fields f.0))

pub certificate_agrees : {A : Type 0} (v : Certificate A) → certificate.strict v ≡ certificate_bytes v
certificate_agrees v = ap (element 48) (same_append (tbs_agrees v.tbs_certificate) (signature_agrees (v.signature_algorithm, v.signature_value)))

-- Certificates (RFC 5280, 4.1.1).
use Rattle.std.specs.Prelude.{ℕ, Bool, List, ◌++◌}
use Rattle.x509_der.specs.BitString.{bit_content, bit_strings}
use Rattle.x509_der.specs.Element.{element}
use Rattle.x509_der.specs.Join.{join}
use Rattle.x509_der.specs.Shape.{Shape}
use Rattle.x509_der.specs.Structure.{structure}
use Rattle.x509_der.specs.Tagged.{tagged}
use Rattle.x509_keys.specs.AlgorithmIdentifier.{Algorithm, algorithm_identifier, algorithm_bytes, written_fields}
use Rattle.picky_asn1_x509.specs.TbsCertificates.{tbs_certificate, tbs_bytes}
use Rattle.picky_asn1_x509.specs.declared.certificate.Certificate.{Certificate}
use Rattle.picky_asn1_x509.specs.declared.tbs_certificate.TbsCertificate.{TbsCertificate}

-- a signature behind its algorithm
abbrev pub SignatureFields : Type 0 → Type 0
SignatureFields A = Algorithm A × List Bool

-- signatureAlgorithm AlgorithmIdentifier, signature BIT STRING
abbrev pub signature_fields : {A : Type 0} → Shape (SignatureFields A)
signature_fields = join (λ j. j.0) (λ j. j.1) algorithm_identifier (tagged 3 bit_strings)

-- what is written of them
abbrev pub signature_bytes : {A : Type 0} → SignatureFields A → List ℕ
signature_bytes f = algorithm_bytes (written_fields f.0) ++ element 3 (bit_content f.1)

-- the fields as they stand in the SEQUENCE
abbrev pub CertificateFields : Type 0 → Type 0
CertificateFields A = TbsCertificate A × SignatureFields A

abbrev pub certificate_parts : {A : Type 0} → Certificate A → CertificateFields A
certificate_parts v = (v.tbs_certificate, (v.signature_algorithm, v.signature_value))

-- Certificate ::= SEQUENCE { tbsCertificate TBSCertificate, signatureAlgorithm AlgorithmIdentifier, signatureValue BIT
-- STRING } (RFC 5280, 4.1)
abbrev pub certificate_base : {A : Type 0} → Shape (CertificateFields A)
certificate_base = tagged 48 (join (λ j. j.0) (λ j. j.1) tbs_certificate signature_fields)

abbrev pub certificate : {A : Type 0} → Shape (Certificate A)
certificate = structure certificate_parts certificate_base

-- what is written, also of parts that don't fit each other
abbrev pub certificate_bytes : {A : Type 0} → Certificate A → List ℕ
certificate_bytes v = element 48 (tbs_bytes v.tbs_certificate ++ signature_bytes (v.signature_algorithm, v.signature_value))

-- Certificates whose algorithms, names, keys and extensions are of any kind (RFC 5280, 4.1.1).
use Rattle.std.proofs.Common.{◌≡◌, ℕ, ◌+◌, Bool, List, ◌++◌, length}
use Rattle.x509_der.specs.BitString.{bit_strings}
use Rattle.x509_der.specs.Element.{element, header}
use Rattle.x509_der.specs.Fields.{Stands}
use Rattle.x509_der.specs.Join.{join}
use Rattle.x509_der.specs.Shape.{Shape}
use Rattle.x509_der.specs.Structure.{structure}
use Rattle.x509_der.specs.Tagged.{tagged}
use Rattle.x509_der.specs.Tally.{Tally}
use Rattle.x509_outline_parts.specs.Algorithms.{algorithm}
use Rattle.x509_outline_parts.specs.declared.algorithm_outline.AlgorithmOutline.{AlgorithmOutline}
use Rattle.x509_outline.specs.TbsCertificates.{tbs_certificate}
use Rattle.x509_outline.specs.declared.certificate_outline.CertificateOutline.{CertificateOutline}
use Rattle.x509_outline.specs.declared.tbs_certificate_outline.TbsCertificateOutline.{TbsCertificateOutline}

-- a signature behind its algorithm
abbrev pub SignatureFields : Type 0 → Type 0
SignatureFields A = AlgorithmOutline A × List Bool

-- signatureAlgorithm AlgorithmIdentifier, signatureValue BIT STRING
abbrev pub signature_fields : {A : Type 0} → Shape (SignatureFields A)
signature_fields = join (λ j. j.0) (λ j. j.1) algorithm (tagged 3 bit_strings)

-- the fields as they stand in the SEQUENCE
abbrev pub CertificateFields : Type 0 → Type 0
CertificateFields A = TbsCertificateOutline A × SignatureFields A

abbrev pub certificate_parts : {A : Type 0} → CertificateOutline A → CertificateFields A
certificate_parts v = (v.tbs_certificate, (v.signature_algorithm, v.signature_value))

-- Certificate ::= SEQUENCE { tbsCertificate TBSCertificate, signatureAlgorithm AlgorithmIdentifier, signatureValue BIT
-- STRING } (RFC 5280, 4.1)
abbrev pub certificate_base : {A : Type 0} → Shape (CertificateFields A)
certificate_base = tagged 48 (join (λ j. j.0) (λ j. j.1) tbs_certificate signature_fields)

abbrev pub certificate : {A : Type 0} → Shape (CertificateOutline A)
certificate = structure certificate_parts certificate_base

-- the signed part right behind the header, and behind it the algorithm and the signature
pub record CertificateAt {A : Type 0} (v : CertificateOutline A) (string : List ℕ) (y : Tally) : Type 0 where
  pub content : List ℕ
  pub bytes : string ≡ element 48 content
  pub signed : List ℕ
  pub signatures : List ℕ
  pub fields : content ≡ signed ++ signatures
  pub signed_at : Stands tbs_certificate v.tbs_certificate (header content) signed string y
  pub signature_at : Stands signature_fields (v.signature_algorithm, v.signature_value) (header content + length signed) signatures string y

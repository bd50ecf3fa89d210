-- Revocation lists whose algorithms, names and extensions are of any kind (RFC 5280, 5.1.1).
use Rattle.std.proofs.Common.{◌≡◌, ℕ, ◌+◌, List, ◌++◌, length}
use Rattle.x509_der.specs.Element.{element, header}
use Rattle.x509_der.specs.Fields.{Stands}
use Rattle.x509_der.specs.Join.{join}
use Rattle.x509_der.specs.Shape.{Shape}
use Rattle.x509_der.specs.Structure.{structure}
use Rattle.x509_der.specs.Tagged.{tagged}
use Rattle.x509_der.specs.Tally.{Tally}
use Rattle.x509_outline.specs.Certificates.{SignatureFields, signature_fields}
use Rattle.x509_list_outlines.specs.TbsCertLists.{tbs_list}
use Rattle.x509_list_outlines.specs.declared.certificate_list_outline.CertificateListOutline.{CertificateListOutline}
use Rattle.x509_list_outlines.specs.declared.tbs_cert_list_outline.TbsCertListOutline.{TbsCertListOutline}

-- the fields as they stand in the SEQUENCE
abbrev pub ListFields : Type 0 → Type 0
ListFields A = TbsCertListOutline A × SignatureFields A

abbrev pub list_parts : {A : Type 0} → CertificateListOutline A → ListFields A
list_parts v = (v.tbs_cert_list, (v.signature_algorithm, v.signature_value))

-- CertificateList ::= SEQUENCE { tbsCertList TBSCertList, signatureAlgorithm AlgorithmIdentifier, signatureValue BIT STRING }
-- (RFC 5280, 5.1)
abbrev pub list_base : {A : Type 0} → Shape (ListFields A)
list_base = tagged 48 (join (λ j. j.0) (λ j. j.1) tbs_list signature_fields)

abbrev pub certificate_list : {A : Type 0} → Shape (CertificateListOutline A)
certificate_list = structure list_parts list_base

-- the signed part right behind the header, and behind it the algorithm and the signature
pub record CertificateListAt {A : Type 0} (v : CertificateListOutline A) (string : List ℕ) (y : Tally) : Type 0 where
  pub content : List ℕ
  pub bytes : string ≡ element 48 content
  pub signed : List ℕ
  pub signatures : List ℕ
  pub fields : content ≡ signed ++ signatures
  pub signed_at : Stands tbs_list v.tbs_cert_list (header content) signed string y
  pub signature_at : Stands signature_fields (v.signature_algorithm, v.signature_value) (header content + length signed) signatures string y

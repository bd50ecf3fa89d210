-- Where the parts of certificates and requests stand.
use Rattle.std.specs.Prelude.{◌≡◌, ℕ, ◌+◌, List, ◌++◌, length, Option}
use Rattle.x509_der.specs.Element.{element, header}
use Rattle.x509_der.specs.Fields.{Stands}
use Rattle.x509_der.specs.Items.{ItemsAt}
use Rattle.x509_der.specs.Tally.{Tally}
use Rattle.x509_names.specs.Types.{Version}
use Rattle.picky_asn1_x509_parts.specs.Extensions.{ExtensionFields}
use Rattle.picky_asn1_x509_parts.specs.Attribute.{attribute}
use Rattle.picky_asn1_x509_parts.specs.declared.attribute.Attribute.{Attribute}
use Rattle.picky_asn1_x509.specs.Certificates.{signature_fields}
use Rattle.picky_asn1_x509.specs.Requests.{info_parts, info_inner, request_info}
use Rattle.picky_asn1_x509.specs.TbsCertificates.{version_in, list_in, required_of, tbs_inner, tbs_certificate}
use Rattle.picky_asn1_x509.specs.declared.certificate.Certificate.{Certificate}
use Rattle.picky_asn1_x509.specs.declared.certification_request.CertificationRequest.{CertificationRequest}
use Rattle.picky_asn1_x509.specs.declared.certification_request.CertificationRequestInfo.{CertificationRequestInfo}
use Rattle.picky_asn1_x509.specs.declared.tbs_certificate.TbsCertificate.{TbsCertificate}

-- the version and the extensions as they are spelled, and each field, with its tag, behind those before it
pub record TbsAt {A : Type 0} (v : TbsCertificate A) (string : List ℕ) (y : Tally) : Type 0 where
  pub content : List ℕ
  pub bytes : string ≡ element 48 content
  pub version : Option Version
  pub version_means : version_in version ≡ v.version
  pub extensions : Option (List (ExtensionFields A))
  pub extensions_mean : list_in extensions ≡ v.extensions
  pub fields : Stands tbs_inner (version, (required_of v, (v.issuer_unique_id, (v.subject_unique_id, extensions)))) (header content) content string y

-- the signed part right behind the header, and behind it the algorithm and the signature
pub record CertificateAt {A : Type 0} (v : Certificate A) (string : List ℕ) (y : Tally) : Type 0 where
  pub content : List ℕ
  pub bytes : string ≡ element 48 content
  pub signed : List ℕ
  pub signatures : List ℕ
  pub fields : content ≡ signed ++ signatures
  pub signed_at : Stands tbs_certificate v.tbs_certificate (header content) signed string y
  pub signature_at : Stands signature_fields (v.signature_algorithm, v.signature_value) (header content + length signed) signatures string y

-- each field, with its tag, behind those before it
pub record InfoAt {A : Type 0} (v : CertificationRequestInfo A) (string : List ℕ) (y : Tally) : Type 0 where
  pub content : List ℕ
  pub bytes : string ≡ element 48 content
  pub fields : Stands info_inner (info_parts v) (header content) content string y

-- the signed part right behind the header, and behind it the algorithm and the signature
pub record RequestAt {A : Type 0} (v : CertificationRequest A) (string : List ℕ) (y : Tally) : Type 0 where
  pub content : List ℕ
  pub bytes : string ≡ element 48 content
  pub signed : List ℕ
  pub signatures : List ℕ
  pub fields : content ≡ signed ++ signatures
  pub signed_at : Stands request_info v.certification_request_info (header content) signed string y
  pub signature_at : Stands signature_fields (v.signature_algorithm, v.signature) (header content + length signed) signatures string y

-- the attributes one behind another behind the header
pub record AttributesAt {A : Type 0} (list : List (Attribute A)) (string : List ℕ) (y : Tally) : Type 0 where
  pub content : List ℕ
  pub bytes : string ≡ element 160 content
  pub items_at : ItemsAt attribute string y list (header content) content

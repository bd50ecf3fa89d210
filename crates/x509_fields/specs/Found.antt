-- Places in bytes that were checked, and of which no value is kept.
use Rattle.std.specs.Prelude.{◌≡◌, ◌+◌, List, [], ℕ, Option, Some, None}
use Rattle.x509_der.specs.Calls.{IsWhole}
use Rattle.x509_der.specs.Element.{element, header}
use Rattle.x509_der.specs.Items.{ItemsAt}
use Rattle.x509_der.specs.Shape.{Shape}
use Rattle.x509_der.specs.Tally.{Tally}
use Rattle.x509_keys.specs.PrivateKeyInfos.{private_key_info}
use Rattle.x509_keys.specs.declared.private_key_info.PrivateKeyInfo.{PrivateKeyInfo}
use Rattle.picky_asn1_x509.specs.Certificates.{certificate}
use Rattle.picky_asn1_x509.specs.ExtensionLists.{extensions}
use Rattle.picky_asn1_x509.specs.Extensions.{ExtensionFields, extension}
use Rattle.picky_asn1_x509.specs.Requests.{request}
use Rattle.picky_asn1_x509.specs.declared.certificate.Certificate.{Certificate}
use Rattle.picky_asn1_x509.specs.declared.certification_request.CertificationRequest.{CertificationRequest}
use Rattle.x509_fields.specs.Certificates.{CertificateIn}
use Rattle.x509_fields.specs.Extensions.{ExtensionIn}
use Rattle.x509_fields.specs.Keys.{PrivateKeyIn}
use Rattle.x509_fields.specs.Requests.{RequestIn}
use Rattle.x509_fields.specs.Slices.{Covers}
use Rattle.x509_fields.specs.Walks.{Walk}
use Rattle.x509_fields.specs.declared.certificate.CertificateFields.{CertificateFields}
use Rattle.x509_fields.specs.declared.extension.ExtensionFields.{ExtensionFields as ExtensionPlaces}
use Rattle.x509_fields.specs.declared.private_key.PrivateKeyInfoFields.{PrivateKeyInfoFields}
use Rattle.x509_fields.specs.declared.request.CertificationRequestFields.{CertificationRequestFields}
use Rattle.x509_fields.specs.declared.span.Span.{Span}

-- whatever value the string encodes, its fields stand at the places
abbrev pub Within : {V Places : Type 0} → Shape V → (V → Places → List ℕ → Tally → Type 0) → List ℕ → Places → Type 0
Within {V} s StandIn string at = (v : V) (y : Tally) → s.spelled v string y → StandIn v at string y

abbrev pub CertificateWithin : (A : Type 0) → List ℕ → CertificateFields → Type 0
CertificateWithin A = Within (certificate {A = A}) CertificateIn

abbrev pub RequestWithin : (A : Type 0) → List ℕ → CertificationRequestFields → Type 0
RequestWithin A = Within (request {A = A}) RequestIn

abbrev pub PrivateKeyWithin : (A : Type 0) → List ℕ → PrivateKeyInfoFields → Type 0
PrivateKeyWithin A = Within (private_key_info {A = A}) PrivateKeyIn

abbrev pub ExtensionWithin : (A : Type 0) → List ℕ → ExtensionPlaces → Type 0
ExtensionWithin A = Within (extension {A = A}) ExtensionIn

-- the walk is over a list in a string that encodes it, each item of which is the next element
pub record ListedIn {A : Type 0} (es : List (ExtensionFields A)) (walk : Walk) (string : List ℕ) (whole : Tally) : Type 0 where
  pub list : string ≡ element 48 walk.rest
  pub at : walk.at ≡ header walk.rest
  pub items : ItemsAt extension string whole es walk.at walk.rest

-- it is over the content of a list that stands under its tag where the span says, or over nothing
abbrev pub WalksTagged : Option Span → List ℕ → Walk → Type 0
WalksTagged None string walk = (walk.rest ≡ []) × (walk.at ≡ 0)
WalksTagged (Some span) string walk = Covers string span.start span.end (element 163 (element 48 walk.rest)) × (walk.at ≡ span.start + header (element 48 walk.rest) + header walk.rest)

-- it is over the extensions of a certificate in a string that encodes it, each of which is the next element
pub record CarriedIn {A : Type 0} (v : Certificate A) (walk : Walk) (string : List ℕ) (whole : Tally) : Type 0 where
  pub places : CertificateFields
  pub stand : CertificateIn v places string whole
  pub list : WalksTagged places.fields.extensions string walk
  pub items : ItemsAt extension string whole v.tbs_certificate.extensions walk.at walk.rest

abbrev pub ListWithin : (A : Type 0) → List ℕ → Walk → Type 0
ListWithin A = Within (extensions {A = A}) ListedIn

abbrev pub CarriedWithin : (A : Type 0) → List ℕ → Walk → Type 0
CarriedWithin A = Within (certificate {A = A}) CarriedIn

-- the string encodes a value, and its fields stand at the places
pub record Found {V Places : Type 0} (s : Shape V) (StandIn : V → Places → List ℕ → Tally → Type 0) (string : List ℕ) (at : Places) : Type 0 where
  pub value : V
  pub tally : Tally
  pub whole : IsWhole s string value tally
  pub stand : StandIn value at string tally

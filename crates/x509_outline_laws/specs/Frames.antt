-- A certificate and its outline: two readings of one string, field by field (RFC 5280, 4.1 and 4.1.1).
use Rattle.std.specs.Prelude.{◌≡◌, ℕ, List, [], ◌∷◌, ◌++◌, Option, Some, None}
use Rattle.std.specs.List.{AllByRecursion, flat_map}
use Rattle.x509_der.specs.BitString.{bit_strings}
use Rattle.x509_der.specs.Element.{element}
use Rattle.x509_der.specs.Integer.{integers}
use Rattle.x509_der.specs.Optional.{optional}
use Rattle.x509_der.specs.Shape.{Shape}
use Rattle.x509_der.specs.Tagged.{tagged}
use Rattle.x509_der.specs.Tally.{Tally}
use Rattle.x509_names.specs.Names.{name}
use Rattle.x509_names.specs.declared.attribute_type_and_value.AttributeTypeAndValue.{AttributeTypeAndValue}
use Rattle.x509_names.specs.Types.{Version}
use Rattle.x509_names.specs.Validities.{validity as dates}
use Rattle.x509_keys.specs.AlgorithmIdentifier.{Algorithm, algorithm_identifier}
use Rattle.x509_keys.specs.SubjectPublicKeyInfos.{subject_public_key_info}
use Rattle.x509_keys.specs.declared.subject_public_key_info.SubjectPublicKeyInfo.{SubjectPublicKeyInfo}
use Rattle.picky_asn1_x509_parts.specs.Extensions.{ExtensionFields, extension}
use Rattle.picky_asn1_x509.specs.Certificates.{certificate}
use Rattle.picky_asn1_x509.specs.TbsCertificates.{version_field, issuer_id_field, subject_id_field, extensions_field, tbs_certificate, version_in, list_in}
use Rattle.picky_asn1_x509.specs.declared.certificate.Certificate.{Certificate}
use Rattle.picky_asn1_x509.specs.declared.tbs_certificate.TbsCertificate.{TbsCertificate}
use Rattle.x509_outline_parts.specs.Algorithms as algorithms
use Rattle.x509_outline_parts.specs.Extensions as extensions
use Rattle.x509_outline_parts.specs.Names as names
use Rattle.x509_outline_parts.specs.PublicKeys as keys
use Rattle.x509_outline_parts.specs.declared.algorithm_outline.AlgorithmOutline.{AlgorithmOutline}
use Rattle.x509_outline_parts.specs.declared.attribute_outline.AttributeOutline.{AttributeOutline}
use Rattle.x509_outline_parts.specs.declared.public_key_outline.PublicKeyOutline.{PublicKeyOutline}
use Rattle.x509_outline_parts.specs.declared.extension_outline.ExtensionOutline.{ExtensionOutline}
use Rattle.x509_outline.specs.Certificates as outlines
use Rattle.x509_outline.specs.TbsCertificates as parts
use Rattle.x509_outline.specs.declared.certificate_outline.CertificateOutline.{CertificateOutline}
use Rattle.x509_outline.specs.declared.tbs_certificate_outline.TbsCertificateOutline.{TbsCertificateOutline}

-- the string is read as this value
pub record Reads {V : Type 0} (s : Shape V) (v : V) (string : List ℕ) : Type 0 where
  pub tally : Tally
  pub spelled : s.spelled v string tally

-- the string is read as some value
pub record IsRead {V : Type 0} (s : Shape V) (string : List ℕ) : Type 0 where
  pub value : V
  pub reads : Reads s value string

-- the string is read in two ways
abbrev pub BothRead : {V W : Type 0} → Shape V → Shape W → V → W → List ℕ → Type 0
BothRead s t v w string = Reads s v string × Reads t w string

-- two lists of one length, whose items belong together one by one
abbrev pub Pairs : {V W : Type 0} → (V → W → Type 0) → List V → List W → Type 0
Pairs R [] [] = Unit {0}
Pairs R (v ∷ vs) (w ∷ ws) = R v w × Pairs R vs ws
Pairs R vs ws = ⊥

-- the slices of a signed part's fields, each with its tag, one behind another; of a field that is absent it is empty
-- (RFC 5280, 4.1.2)
pub record Slices : Type 0 where
  pub version : List ℕ
  pub serial_number : List ℕ
  pub signature : List ℕ
  pub issuer : List ℕ
  pub validity : List ℕ
  pub subject : List ℕ
  pub subject_public_key_info : List ℕ
  pub issuer_unique_id : List ℕ
  pub subject_unique_id : List ℕ
  pub extensions : List ℕ

-- the fields that every certificate has
abbrev pub required_in : Slices → List ℕ
required_in p = p.serial_number ++ (p.signature ++ (p.issuer ++ (p.validity ++ (p.subject ++ p.subject_public_key_info))))

abbrev pub signed_in : Slices → List ℕ
signed_in p = element 48 (p.version ++ (required_in p ++ (p.issuer_unique_id ++ (p.subject_unique_id ++ p.extensions))))

-- the algorithm is the same
abbrev pub SameIdentifier : {A : Type 0} → Algorithm A → AlgorithmOutline A → Type 0
SameIdentifier a b = b.algorithm ≡ a.algorithm

-- and that of a key
abbrev pub SameKey : {A : Type 0} → SubjectPublicKeyInfo A → PublicKeyOutline A → Type 0
SameKey a b = SameIdentifier a.algorithm b.algorithm

-- an attribute's type is the same
abbrev pub SameType : {A : Type 0} → AttributeTypeAndValue A → AttributeOutline A → Type 0
SameType a b = b.attribute_type ≡ a.ty

-- an extension's identifier and criticality are the same
abbrev pub SameExtension : {A : Type 0} → ExtensionFields A → ExtensionOutline A → Type 0
SameExtension e f = (f.extn_id ≡ e.extn_id) × (f.critical ≡ e.critical)

-- what is read in the one way where both grammars say the same: the version, the serial number, the dates and the unique
-- identifiers
pub record Alike {A : Type 0} (c : TbsCertificate A) (o : TbsCertificateOutline A) (p : Slices) : Type 0 where
  pub spelled : Option Version
  pub version_is : version_in spelled ≡ c.version
  pub version : o.version ≡ c.version
  pub version_at : Reads (optional version_field) spelled p.version
  pub serial_number : o.serial_number ≡ c.serial_number
  pub serial_number_at : Reads (tagged 2 integers) c.serial_number p.serial_number
  pub validity : o.validity ≡ c.validity
  pub validity_at : Reads dates c.validity p.validity
  pub issuer_unique_id : o.issuer_unique_id ≡ c.issuer_unique_id
  pub issuer_unique_id_at : Reads (optional issuer_id_field) c.issuer_unique_id p.issuer_unique_id
  pub subject_unique_id : o.subject_unique_id ≡ c.subject_unique_id
  pub subject_unique_id_at : Reads (optional subject_id_field) c.subject_unique_id p.subject_unique_id

-- a signed part and its outline have each field in the same slice
pub record SameFields {A : Type 0} (c : TbsCertificate A) (o : TbsCertificateOutline A) (string : List ℕ) : Type 0 where
  pub slices : Slices
  pub bytes : string ≡ signed_in slices
  pub alike : Alike c o slices
  pub signature : SameIdentifier c.signature o.signature
  pub signature_at : BothRead algorithm_identifier algorithms.algorithm c.signature o.signature slices.signature
  pub issuer : Pairs (Pairs SameType) c.issuer o.issuer
  pub issuer_at : BothRead name names.name c.issuer o.issuer slices.issuer
  pub subject : Pairs (Pairs SameType) c.subject o.subject
  pub subject_at : BothRead name names.name c.subject o.subject slices.subject
  pub key : SameKey c.subject_public_key_info o.subject_public_key_info
  pub key_at : BothRead subject_public_key_info keys.public_key c.subject_public_key_info o.subject_public_key_info slices.subject_public_key_info
  pub spelled : Option (List (ExtensionFields A))
  pub outlined : Option (List (ExtensionOutline A))
  pub extensions_are : list_in spelled ≡ c.extensions
  pub outlined_are : list_in outlined ≡ o.extensions
  pub extensions_at : BothRead (optional extensions_field) (optional parts.extensions_field) spelled outlined slices.extensions
  pub extensions : Pairs SameExtension c.extensions o.extensions

-- so have a certificate and its outline: the signed part, the algorithm behind it, and the signature
pub record SameFrame {A : Type 0} (c : Certificate A) (o : CertificateOutline A) (string : List ℕ) : Type 0 where
  pub signed : List ℕ
  pub algorithm : List ℕ
  pub signature : List ℕ
  pub bytes : string ≡ element 48 (signed ++ (algorithm ++ signature))
  pub signed_at : BothRead tbs_certificate parts.tbs_certificate c.tbs_certificate o.tbs_certificate signed
  pub fields : SameFields c.tbs_certificate o.tbs_certificate signed
  pub signature_algorithm : SameIdentifier c.signature_algorithm o.signature_algorithm
  pub algorithm_at : BothRead algorithm_identifier algorithms.algorithm c.signature_algorithm o.signature_algorithm algorithm
  pub signature_at : Reads (tagged 3 bit_strings) c.signature_value signature
  pub signature_value : o.signature_value ≡ c.signature_value

-- the string is read as an outline of the certificate, with the same frame
pub record HasOutline {A : Type 0} (c : Certificate A) (string : List ℕ) : Type 0 where
  pub outline : CertificateOutline A
  pub reads : Reads outlines.certificate outline string
  pub same : SameFrame c outline string

-- the string is read as an outline of the key
pub record HasKeyOutline {A : Type 0} (k : SubjectPublicKeyInfo A) (string : List ℕ) : Type 0 where
  pub outline : PublicKeyOutline A
  pub reads : Reads keys.public_key outline string
  pub same : SameKey k outline

-- the slices of the extensions one behind another, if there are any
abbrev pub extensions_in : Option (List (List ℕ)) → List ℕ
extensions_in None = []
extensions_in (Some each) = element 163 (element 48 (flat_map (λ p. p) each))

-- the parts of an outline that it keeps as they are, each in its slice
pub record Kept {A : Type 0} (o : CertificateOutline A) (string : List ℕ) : Type 0 where
  pub slices : Slices
  pub algorithm : List ℕ
  pub signature : List ℕ
  pub each : Option (List (List ℕ))
  pub bytes : string ≡ element 48 (signed_in slices ++ (algorithm ++ signature))
  pub each_is : slices.extensions ≡ extensions_in each
  pub signature_at : Reads algorithms.algorithm o.tbs_certificate.signature slices.signature
  pub issuer_at : Reads names.name o.tbs_certificate.issuer slices.issuer
  pub subject_at : Reads names.name o.tbs_certificate.subject slices.subject
  pub key_at : Reads keys.public_key o.tbs_certificate.subject_public_key_info slices.subject_public_key_info
  pub extensions_at : Pairs (Reads extensions.extension) o.tbs_certificate.extensions (list_in each)
  pub algorithm_at : Reads algorithms.algorithm o.signature_algorithm algorithm

-- that the parts are read as those of a certificate
pub record AreRead (A : Type 0) (p : Slices) (algorithm : List ℕ) (each : Option (List (List ℕ))) : Type 0 where
  pub signature : IsRead (algorithm_identifier {A = A}) p.signature
  pub issuer : IsRead (name {A = A}) p.issuer
  pub subject : IsRead (name {A = A}) p.subject
  pub key : IsRead (subject_public_key_info {A = A}) p.subject_public_key_info
  pub extensions : AllByRecursion (IsRead (extension {A = A})) (list_in each)
  pub signature_algorithm : IsRead (algorithm_identifier {A = A}) algorithm

-- nothing else than such a part is a reason to refuse the whole
pub record IsReadByParts {A : Type 0} (o : CertificateOutline A) (string : List ℕ) : Type 0 where
  pub kept : Kept o string
  pub reads : AreRead A kept.slices kept.algorithm kept.each → IsRead (certificate {A = A}) string

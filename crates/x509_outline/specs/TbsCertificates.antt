-- The part of a certificate that is signed, with names, algorithms, keys and extensions of any kind (RFC 5280, 4.1.2).
use Rattle.std.specs.Prelude.{◌≡◌, ℕ, Bool, true, ◌&&◌, List, ◌++◌, Option}
use Rattle.x509_der.specs.Types.{Deviation, ReadError}
use Rattle.x509_der.specs.BitString.{bit_strings}
use Rattle.x509_der.specs.Element.{element, header}
use Rattle.x509_der.specs.Fields.{Stands}
use Rattle.x509_der.specs.Integer.{integers}
use Rattle.x509_der.specs.Items.{no_items}
use Rattle.x509_der.specs.Join.{join}
use Rattle.x509_der.specs.Optional.{optional, brief_if}
use Rattle.x509_der.specs.Shape.{Shape}
use Rattle.x509_der.specs.Tagged.{tagged}
use Rattle.x509_der.specs.Tally.{Tally}
use Rattle.x509_der.specs.View.{Meaning, seen}
use Rattle.x509_names.specs.Types.{Validity, Version}
use Rattle.x509_names.specs.Validities.{validity}
use Rattle.x509_names.specs.Versions.{version}
use Rattle.x509_outline_parts.specs.Algorithms.{algorithm}
use Rattle.x509_outline_parts.specs.Extensions.{extensions}
use Rattle.x509_outline_parts.specs.Names.{Sets, name}
use Rattle.x509_outline_parts.specs.PublicKeys.{public_key}
use Rattle.x509_outline_parts.specs.declared.algorithm_outline.AlgorithmOutline.{AlgorithmOutline}
use Rattle.x509_outline_parts.specs.declared.extension_outline.ExtensionOutline.{ExtensionOutline}
use Rattle.x509_outline_parts.specs.declared.public_key_outline.PublicKeyOutline.{PublicKeyOutline}
use Rattle.x509_outline.specs.Versions.{version_in, written_version, version_kinds, list_in, written_list, list_kinds, ids_fit, extensions_fit, refusal_where, read_if, gone_fit}
use Rattle.x509_outline.specs.declared.tbs_certificate_outline.TbsCertificateOutline.{TbsCertificateOutline}

-- what every certificate has: the serial number, the algorithm of the signature, the issuer, the validity, the subject and its public key
abbrev pub RequiredFields : Type 0 → Type 0
RequiredFields A = List ℕ × (AlgorithmOutline A × (Sets A × (Validity × (Sets A × PublicKeyOutline A))))

-- what may stand behind it: the unique identifiers of issuer and subject, and the extensions
abbrev pub EndFields : Type 0 → Type 0
EndFields A = Option (List Bool) × (Option (List Bool) × Option (List (ExtensionOutline A)))

-- the fields as they stand in the SEQUENCE
abbrev pub TbsFields : Type 0 → Type 0
TbsFields A = Option Version × (RequiredFields A × EndFields A)

-- version [0] EXPLICIT Version
abbrev pub version_field : Shape Version
version_field = tagged 160 version

-- serialNumber CertificateSerialNumber, signature AlgorithmIdentifier, issuer Name, validity Validity, subject Name,
-- subjectPublicKeyInfo SubjectPublicKeyInfo; CertificateSerialNumber ::= INTEGER
abbrev pub required_fields : {A : Type 0} → Shape (RequiredFields A)
required_fields =
    join (λ j. j.0) (λ j. j.1) (tagged 2 integers)
    (join (λ j. j.0) (λ j. j.1) algorithm
    (join (λ j. j.0) (λ j. j.1) name
    (join (λ j. j.0) (λ j. j.1) validity
    (join (λ j. j.0) (λ j. j.1) name public_key))))

-- issuerUniqueID [1] IMPLICIT UniqueIdentifier; UniqueIdentifier ::= BIT STRING
abbrev pub issuer_id_field : Shape (List Bool)
issuer_id_field = tagged 129 bit_strings

-- subjectUniqueID [2] IMPLICIT UniqueIdentifier
abbrev pub subject_id_field : Shape (List Bool)
subject_id_field = tagged 130 bit_strings

-- extensions [3] EXPLICIT Extensions
abbrev pub extensions_field : {A : Type 0} → Shape (List (ExtensionOutline A))
extensions_field = tagged 163 extensions

abbrev pub ends : {A : Type 0} → Shape (EndFields A)
ends =
    join (λ j. j.0) (λ j. j.1) (optional issuer_id_field)
    (join (λ j. j.0) (λ j. j.1) (optional subject_id_field) (optional extensions_field))

-- the fields that stand behind the version
abbrev pub after_version : {A : Type 0} → Shape (RequiredFields A × EndFields A)
after_version = join (λ j. j.0) (λ j. j.1) required_fields ends

abbrev pub tbs_inner : {A : Type 0} → Shape (TbsFields A)
tbs_inner = join (λ j. j.0) (λ j. j.1) (optional version_field) after_version

-- TBSCertificate ::= SEQUENCE { version [0] EXPLICIT Version DEFAULT v1, serialNumber, signature, issuer, validity, subject,
-- subjectPublicKeyInfo, issuerUniqueID [1] IMPLICIT UniqueIdentifier OPTIONAL, subjectUniqueID [2] IMPLICIT
-- UniqueIdentifier OPTIONAL, extensions [3] EXPLICIT Extensions OPTIONAL } (RFC 5280, 4.1)
abbrev pub tbs_base : {A : Type 0} → Shape (TbsFields A)
tbs_base = tagged 48 tbs_inner

-- what the version asks of the other fields
abbrev pub is_fitting : {A : Type 0} → TbsCertificateOutline A → Bool
is_fitting v = ids_fit v.version v.issuer_unique_id v.subject_unique_id && extensions_fit v.version v.extensions

-- why fields are refused that don't fit their version
abbrev pub tbs_refusal : {A : Type 0} → TbsFields A → ReadError
tbs_refusal f = refusal_where (ids_fit (version_in f.0) f.1.1.0 f.1.1.1.0)

abbrev pub tbs_with : {A : Type 0} → Version → RequiredFields A → Option (List Bool) → Option (List Bool) → List (ExtensionOutline A) → TbsCertificateOutline A
tbs_with n c i s es = record {
  version = n;
  serial_number = c.0;
  signature = c.1.0;
  issuer = c.1.1.0;
  validity = c.1.1.1.0;
  subject = c.1.1.1.1.0;
  subject_public_key_info = c.1.1.1.1.1;
  issuer_unique_id = i;
  subject_unique_id = s;
  extensions = es;
}

abbrev pub required_of : {A : Type 0} → TbsCertificateOutline A → RequiredFields A
required_of v = (v.serial_number, (v.signature, (v.issuer, (v.validity, (v.subject, v.subject_public_key_info)))))

abbrev pub tbs_of : {A : Type 0} → TbsFields A → TbsCertificateOutline A
tbs_of f = tbs_with (version_in f.0) f.1.0 f.1.1.0 f.1.1.1.0 (list_in f.1.1.1.1)

-- the fields that are written: neither version 1 nor an empty list
abbrev pub tbs_back : {A : Type 0} → TbsCertificateOutline A → TbsFields A
tbs_back v = (written_version v.version, (required_of v, (v.issuer_unique_id, (v.subject_unique_id, written_list v.extensions))))

-- certificates whose version doesn't fit aren't read; both deviations may stand over one element
abbrev pub tbs_means : {A : Type 0} → TbsFields A → Option (TbsCertificateOutline A × List Deviation)
tbs_means f = read_if (is_fitting (tbs_of f)) (tbs_of f) (version_kinds f.0 ++ list_kinds f.1.1.1.1)

-- they are written and not read back
abbrev pub tbs_meaning : {A : Type 0} → Meaning (TbsFields A) (TbsCertificateOutline A)
tbs_meaning = record {
  of = tbs_means;
  back = tbs_back;
  valid = λ v. tbs_inner.valid (tbs_back v);
  readable = λ v. (is_fitting v ≡ true) × tbs_inner.readable (tbs_back v);
}

abbrev pub tbs_certificate : {A : Type 0} → Shape (TbsCertificateOutline A)
tbs_certificate = seen tbs_meaning tbs_base

-- what is kept of the fields that are gone past: the version, which identifiers are there, and whether the list is empty
abbrev pub EndsBrief : Type 0
EndsBrief = Option (Unit {0}) × (Option (Unit {0}) × Option Bool)

abbrev pub tbs_brief : {A : Type 0} → TbsFields A → Option Version × (Unit {0} × EndsBrief)
tbs_brief f = (brief_if (λ v. v) f.0, (tt, (brief_if (λ b. tt) f.1.1.0, (brief_if (λ b. tt) f.1.1.1.0, brief_if no_items f.1.1.1.1))))

abbrev pub tbs_fits : Option Version → EndsBrief → Bool
tbs_fits v e = ids_fit (version_in v) e.0 e.1.0 && gone_fit (version_in v) e.1.1

-- the version and the extensions as they are spelled, and each field, with its tag, behind those before it
pub record TbsAt {A : Type 0} (v : TbsCertificateOutline A) (string : List ℕ) (y : Tally) : Type 0 where
  pub content : List ℕ
  pub bytes : string ≡ element 48 content
  pub version : Option Version
  pub version_means : version_in version ≡ v.version
  pub extensions : Option (List (ExtensionOutline A))
  pub extensions_mean : list_in extensions ≡ v.extensions
  pub fields : Stands tbs_inner (version, (required_of v, (v.issuer_unique_id, (v.subject_unique_id, extensions)))) (header content) content string y

-- The part of a certificate that is signed (RFC 5280, 4.1.2).
use Rattle.x509_der.specs.Items.{no_items}
use Rattle.x509_der.specs.Optional.{brief_if}
use Rattle.std.specs.Prelude.{◌≡◌, ℕ, Bool, true, false, ◌&&◌, List, [], ◌∷◌, ◌++◌, Option, Some, None}
use Rattle.x509_der.specs.Types.{Deviation, ReadError}
use Rattle.x509_der.specs.Types.deviation
use Rattle.x509_der.specs.Types.read_error.{ExtensionsNeedV3, UniqueIdNeedsV2}
use Rattle.x509_der.specs.BitString.{bit_content, bit_strings}
use Rattle.x509_der.specs.Element.{element}
use Rattle.x509_der.specs.Integer.{integers}
use Rattle.x509_der.specs.Join.{join}
use Rattle.x509_der.specs.Optional.{optional, optional_strict}
use Rattle.x509_der.specs.Shape.{Shape}
use Rattle.x509_der.specs.Tagged.{tagged}
use Rattle.x509_der.specs.View.{Meaning, seen}
use Rattle.x509_names.specs.Names.{Sets, name, name_bytes}
use Rattle.x509_names.specs.Types.{Validity, Version}
use Rattle.x509_names.specs.Types.version.{V1, V2, V3}
use Rattle.x509_names.specs.Validities.{validity}
use Rattle.x509_names.specs.Versions.{version}
use Rattle.x509_keys.specs.AlgorithmIdentifier.{Algorithm, algorithm_identifier, algorithm_bytes, written_fields}
use Rattle.x509_keys.specs.ReadIf.{read_if}
use Rattle.x509_keys.specs.SubjectPublicKeyInfos.{subject_public_key_info, subject_bytes}
use Rattle.x509_keys.specs.declared.subject_public_key_info.SubjectPublicKeyInfo.{SubjectPublicKeyInfo}
use Rattle.picky_asn1_x509_parts.specs.Extensions.{ExtensionFields}
use Rattle.picky_asn1_x509_parts.specs.ExtensionLists.{extensions, extensions_bytes}
use Rattle.picky_asn1_x509.specs.declared.tbs_certificate.TbsCertificate.{TbsCertificate}

-- what every certificate has: the serial number, the algorithm of the signature, the issuer, the validity, the subject and its public key
abbrev pub RequiredFields : Type 0 → Type 0
RequiredFields A = List ℕ × (Algorithm A × (Sets A × (Validity × (Sets A × SubjectPublicKeyInfo A))))

-- what may stand behind it: the unique identifiers of issuer and subject, and the extensions
abbrev pub EndFields : Type 0 → Type 0
EndFields A = Option (List Bool) × (Option (List Bool) × Option (List (ExtensionFields A)))

-- the fields as they stand in the SEQUENCE
abbrev pub TbsFields : Type 0 → Type 0
TbsFields A = Option Version × (RequiredFields A × EndFields A)

-- version [0] EXPLICIT Version
abbrev pub version_field : Shape Version
version_field = tagged 160 version

-- serialNumber INTEGER, signature AlgorithmIdentifier, issuer Name, validity Validity, subject Name,
-- subjectPublicKeyInfo SubjectPublicKeyInfo
abbrev pub required_fields : {A : Type 0} → Shape (RequiredFields A)
required_fields =
    join (λ j. j.0) (λ j. j.1) (tagged 2 integers)
    (join (λ j. j.0) (λ j. j.1) algorithm_identifier
    (join (λ j. j.0) (λ j. j.1) name
    (join (λ j. j.0) (λ j. j.1) validity
    (join (λ j. j.0) (λ j. j.1) name subject_public_key_info))))

-- issuerUniqueID [1] IMPLICIT BIT STRING
abbrev pub issuer_id_field : Shape (List Bool)
issuer_id_field = tagged 129 bit_strings

-- subjectUniqueID [2] IMPLICIT BIT STRING
abbrev pub subject_id_field : Shape (List Bool)
subject_id_field = tagged 130 bit_strings

-- extensions [3] EXPLICIT Extensions
abbrev pub extensions_field : {A : Type 0} → Shape (List (ExtensionFields A))
extensions_field = tagged 163 extensions

abbrev pub ends : {A : Type 0} → Shape (EndFields A)
ends =
    join (λ j. j.0) (λ j. j.1) (optional issuer_id_field)
    (join (λ j. j.0) (λ j. j.1) (optional subject_id_field) (optional extensions_field))

-- the fields that stand behind the version
abbrev pub after_version : {A : Type 0} → Shape (RequiredFields A × EndFields A)
after_version = join (λ j. j.0) (λ j. j.1) required_fields ends

abbrev pub tbs_inner : {A : Type 0} → Shape (TbsFields A)
tbs_inner = join (λ j. j.0) (λ j. j.1) (optional version_field) after_version

-- TBSCertificate ::= SEQUENCE { version [0] EXPLICIT Version DEFAULT v1, serialNumber, signature, issuer, validity, subject,
-- subjectPublicKeyInfo, issuerUniqueID [1] IMPLICIT UniqueIdentifier OPTIONAL, subjectUniqueID [2] IMPLICIT
-- UniqueIdentifier OPTIONAL, extensions [3] EXPLICIT Extensions OPTIONAL } (RFC 5280, 4.1)
abbrev pub tbs_base : {A : Type 0} → Shape (TbsFields A)
tbs_base = tagged 48 tbs_inner

-- a version that is left out is version 1
abbrev pub version_in : Option Version → Version
version_in None = V1
version_in (Some v) = v

abbrev pub written_version : Version → Option Version
written_version V1 = None
written_version V2 = Some V2
written_version V3 = Some V3

-- version 1 that is spelled
abbrev pub version_kinds : Option Version → List Deviation
version_kinds None = []
version_kinds (Some V1) = deviation.VersionZeroSpelled ∷ []
version_kinds (Some V2) = []
version_kinds (Some V3) = []

-- a list that is left out is empty
abbrev pub list_in : {E : Type 0} → Option (List E) → List E
list_in None = []
list_in (Some es) = es

abbrev pub written_list : {E : Type 0} → List E → Option (List E)
written_list [] = None
written_list (e ∷ es) = Some (e ∷ es)

-- an empty list that is spelled
abbrev pub list_kinds : {E : Type 0} → Option (List E) → List Deviation
list_kinds None = []
list_kinds (Some []) = deviation.EmptyExtensionsSpelled ∷ []
list_kinds (Some (e ∷ es)) = []

abbrev pub is_absent : {V : Type 0} → Option V → Bool
is_absent None = true
is_absent (Some v) = false

abbrev pub is_nil : {E : Type 0} → List E → Bool
is_nil [] = true
is_nil (e ∷ es) = false

-- unique identifiers need version 2 or 3 (RFC 5280, 4.1.2.8)
abbrev pub ids_fit : {V W : Type 0} → Version → Option V → Option W → Bool
ids_fit V1 issuer subject = is_absent issuer && is_absent subject
ids_fit V2 issuer subject = true
ids_fit V3 issuer subject = true

-- extensions need version 3 (RFC 5280, 4.1.2.9)
abbrev pub extensions_fit : {E : Type 0} → Version → List E → Bool
extensions_fit V1 es = is_nil es
extensions_fit V2 es = is_nil es
extensions_fit V3 es = true

-- what the version asks of the other fields
abbrev pub is_fitting : {A : Type 0} → TbsCertificate A → Bool
is_fitting v = ids_fit v.version v.issuer_unique_id v.subject_unique_id && extensions_fit v.version v.extensions

abbrev pub refusal_where : Bool → ReadError
refusal_where true = ExtensionsNeedV3
refusal_where false = UniqueIdNeedsV2

-- why fields are refused that don't fit their version
abbrev pub tbs_refusal : {A : Type 0} → TbsFields A → ReadError
tbs_refusal f = refusal_where (ids_fit (version_in f.0) f.1.1.0 f.1.1.1.0)

abbrev pub tbs_with : {A : Type 0} → Version → RequiredFields A → Option (List Bool) → Option (List Bool) → List (ExtensionFields A) → TbsCertificate A
tbs_with n c i s es = record {
  version = n;
  serial_number = c.0;
  signature = c.1.0;
  issuer = c.1.1.0;
  validity = c.1.1.1.0;
  subject = c.1.1.1.1.0;
  subject_public_key_info = c.1.1.1.1.1;
  issuer_unique_id = i;
  subject_unique_id = s;
  extensions = es;
}

abbrev pub required_of : {A : Type 0} → TbsCertificate A → RequiredFields A
required_of v = (v.serial_number, (v.signature, (v.issuer, (v.validity, (v.subject, v.subject_public_key_info)))))

abbrev pub tbs_of : {A : Type 0} → TbsFields A → TbsCertificate A
tbs_of f = tbs_with (version_in f.0) f.1.0 f.1.1.0 f.1.1.1.0 (list_in f.1.1.1.1)

-- the fields that are written: neither version 1 nor an empty list
abbrev pub tbs_back : {A : Type 0} → TbsCertificate A → TbsFields A
tbs_back v = (written_version v.version, (required_of v, (v.issuer_unique_id, (v.subject_unique_id, written_list v.extensions))))

-- certificates whose version doesn't fit aren't read; both deviations may stand over one element
abbrev pub tbs_means : {A : Type 0} → TbsFields A → Option (TbsCertificate A × List Deviation)
tbs_means f = read_if (is_fitting (tbs_of f)) (tbs_of f) (version_kinds f.0 ++ list_kinds f.1.1.1.1)

-- they are written and not read back
abbrev pub tbs_meaning : {A : Type 0} → Meaning (TbsFields A) (TbsCertificate A)
tbs_meaning = record {
  of = tbs_means;
  back = tbs_back;
  valid = λ v. tbs_inner.valid (tbs_back v);
  readable = λ v. (is_fitting v ≡ true) × tbs_inner.readable (tbs_back v);
}

abbrev pub tbs_certificate : {A : Type 0} → Shape (TbsCertificate A)
tbs_certificate = seen tbs_meaning tbs_base

-- what is written, also of parts that don't fit each other
abbrev pub required_bytes : {A : Type 0} → RequiredFields A → List ℕ
required_bytes c = element 2 c.0 ++ (algorithm_bytes (written_fields c.1.0) ++ (element 48 (name_bytes c.1.1.0) ++ (validity.strict c.1.1.1.0 ++ (element 48 (name_bytes c.1.1.1.1.0) ++ subject_bytes c.1.1.1.1.1))))

abbrev pub id_bytes : ℕ → Option (List Bool) → List ℕ
id_bytes t bits = optional_strict (λ b. element t (bit_content b)) bits

abbrev pub list_bytes : {A : Type 0} → Option (List (ExtensionFields A)) → List ℕ
list_bytes es = optional_strict (λ l. element 163 (extensions_bytes l)) es

abbrev pub end_bytes : {A : Type 0} → EndFields A → List ℕ
end_bytes e = id_bytes 129 e.0 ++ (id_bytes 130 e.1.0 ++ list_bytes e.1.1)

abbrev pub fields_bytes : {A : Type 0} → TbsFields A → List ℕ
fields_bytes f = (optional version_field).strict f.0 ++ (required_bytes f.1.0 ++ end_bytes f.1.1)

abbrev pub tbs_bytes : {A : Type 0} → TbsCertificate A → List ℕ
tbs_bytes v = element 48 (fields_bytes (tbs_back v))

-- what is kept of the fields that are gone past: the version, which identifiers are there, and whether the list is empty
abbrev pub EndsBrief : Type 0
EndsBrief = Option (Unit {0}) × (Option (Unit {0}) × Option Bool)

abbrev pub tbs_brief : {A : Type 0} → TbsFields A → Option Version × (Unit {0} × EndsBrief)
tbs_brief f = (brief_if (λ v. v) f.0, (tt, (brief_if (λ b. tt) f.1.1.0, (brief_if (λ b. tt) f.1.1.1.0, brief_if no_items f.1.1.1.1))))

-- no extension, or an empty list of them
abbrev pub gone_empty : Option Bool → Bool
gone_empty None = true
gone_empty (Some e) = e

abbrev pub gone_fit : Version → Option Bool → Bool
gone_fit V1 e = gone_empty e
gone_fit V2 e = gone_empty e
gone_fit V3 e = true

abbrev pub gone_kinds : Option Bool → List Deviation
gone_kinds None = []
gone_kinds (Some true) = deviation.EmptyExtensionsSpelled ∷ []
gone_kinds (Some false) = []

abbrev pub tbs_fits : Option Version → EndsBrief → Bool
tbs_fits v e = ids_fit (version_in v) e.0 e.1.0 && gone_fit (version_in v) e.1.1

-- Certificates in a form without unique identifiers, which stands beside the full one to say what stays.
use Rattle.std.specs.Prelude.{◌≡◌, Bool, true, List, ◌++◌, Option, None}
use Rattle.x509_der.specs.Types.{Deviation}
use Rattle.x509_der.specs.Join.{join}
use Rattle.x509_der.specs.Optional.{optional}
use Rattle.x509_der.specs.Shape.{Shape}
use Rattle.x509_der.specs.Tagged.{tagged}
use Rattle.x509_der.specs.View.{Meaning, seen}
use Rattle.x509_names.specs.Types.{Version}
use Rattle.x509_keys.specs.ReadIf.{read_if}
use Rattle.picky_asn1_x509_parts.specs.Extensions.{ExtensionFields}
use Rattle.picky_asn1_x509.specs.Certificates.{SignatureFields, signature_fields}
use Rattle.picky_asn1_x509.specs.declared.certificate.Certificate.{Certificate}
use Rattle.picky_asn1_x509.specs.declared.tbs_certificate.TbsCertificate.{TbsCertificate}
use Rattle.picky_asn1_x509.specs.TbsCertificates.{RequiredFields, version_field, required_fields, extensions_field, version_in, written_version, version_kinds, list_in, written_list, list_kinds, extensions_fit, tbs_with}

-- the version, what every certificate has, the extensions
abbrev pub OlderFields : Type 0 → Type 0
OlderFields A = Option Version × (RequiredFields A × Option (List (ExtensionFields A)))

abbrev pub OlderTbs : Type 0 → Type 0
OlderTbs A = Version × (RequiredFields A × List (ExtensionFields A))

abbrev pub older_inner : {A : Type 0} → Shape (OlderFields A)
older_inner = join (λ j. j.0) (λ j. j.1) (optional version_field) (join (λ j. j.0) (λ j. j.1) required_fields (optional extensions_field))

-- SEQUENCE { version [0] EXPLICIT Version DEFAULT v1, serialNumber, signature, issuer, validity, subject,
-- subjectPublicKeyInfo, extensions [3] EXPLICIT Extensions OPTIONAL }
abbrev pub older_base : {A : Type 0} → Shape (OlderFields A)
older_base = tagged 48 older_inner

abbrev pub older_of : {A : Type 0} → OlderFields A → OlderTbs A
older_of f = (version_in f.0, (f.1.0, list_in f.1.1))

abbrev pub older_back : {A : Type 0} → OlderTbs A → OlderFields A
older_back v = (written_version v.0, (v.1.0, written_list v.1.1))

abbrev pub is_older : {A : Type 0} → OlderTbs A → Bool
is_older v = extensions_fit v.0 v.1.1

abbrev pub older_means : {A : Type 0} → OlderFields A → Option (OlderTbs A × List Deviation)
older_means f = read_if (is_older (older_of f)) (older_of f) (version_kinds f.0 ++ list_kinds f.1.1)

abbrev pub older_meaning : {A : Type 0} → Meaning (OlderFields A) (OlderTbs A)
older_meaning = record {
  of = older_means;
  back = older_back;
  valid = λ v. older_inner.valid (older_back v);
  readable = λ v. (is_older v ≡ true) × older_inner.readable (older_back v);
}

abbrev pub older_tbs : {A : Type 0} → Shape (OlderTbs A)
older_tbs = seen older_meaning older_base

-- the same with no unique identifiers
abbrev pub without_ids : {A : Type 0} → OlderTbs A → TbsCertificate A
without_ids v = tbs_with v.0 v.1.0 None None v.1.1

-- a certificate of this form: what is signed, and the signature behind its algorithm
abbrev pub OlderCertificate : Type 0 → Type 0
OlderCertificate A = OlderTbs A × SignatureFields A

abbrev pub older_certificate : {A : Type 0} → Shape (OlderCertificate A)
older_certificate = tagged 48 (join (λ j. j.0) (λ j. j.1) older_tbs signature_fields)

-- the same with no unique identifiers
abbrev pub certificate_without_ids : {A : Type 0} → OlderCertificate A → Certificate A
certificate_without_ids v = record { tbs_certificate = without_ids v.0; signature_algorithm = v.1.0; signature_value = v.1.1 }

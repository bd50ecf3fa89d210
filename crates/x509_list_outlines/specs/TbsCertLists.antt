-- The part of a revocation list that is signed, with names, algorithms and extensions of any kind (RFC 5280, 5.1.2).
use Rattle.std.specs.Prelude.{◌≡◌, ℕ, Bool, true, false, List, Option, Some, None}
use Rattle.x509_der.specs.Types.{Deviation}
use Rattle.x509_der.specs.Element.{element, header}
use Rattle.x509_der.specs.Fields.{Stands}
use Rattle.x509_der.specs.Items.{items, no_items}
use Rattle.x509_der.specs.Join.{join}
use Rattle.x509_der.specs.Optional.{optional, brief_if}
use Rattle.x509_der.specs.Shape.{Shape}
use Rattle.x509_der.specs.Tagged.{tagged}
use Rattle.x509_der.specs.Tally.{Tally}
use Rattle.x509_der.specs.View.{Meaning, seen}
use Rattle.x509_names.specs.Time.{time}
use Rattle.x509_names.specs.Types.{Time, Version}
use Rattle.x509_names.specs.Types.version.{V1, V2, V3}
use Rattle.x509_names.specs.Versions.{version}
use Rattle.x509_outline.specs.Versions.{version_in, written_version, list_in, written_list, list_kinds, read_if}
use Rattle.x509_outline_parts.specs.Algorithms.{algorithm}
use Rattle.x509_outline_parts.specs.Extensions.{extensions}
use Rattle.x509_outline_parts.specs.Names.{Sets, name}
use Rattle.x509_outline_parts.specs.declared.algorithm_outline.AlgorithmOutline.{AlgorithmOutline}
use Rattle.x509_outline_parts.specs.declared.extension_outline.ExtensionOutline.{ExtensionOutline}
use Rattle.x509_list_outlines.specs.Revoked.{revoked}
use Rattle.x509_list_outlines.specs.declared.revoked_certificate_outline.RevokedCertificateOutline.{RevokedCertificateOutline}
use Rattle.x509_list_outlines.specs.declared.tbs_cert_list_outline.TbsCertListOutline.{TbsCertListOutline}

-- what every list has: the algorithm of the signature, the issuer, and when it was issued
abbrev pub RequiredFields : Type 0 → Type 0
RequiredFields A = AlgorithmOutline A × (Sets A × Time)

-- what may stand behind it: when the next one is issued, the revoked certificates, and the extensions
abbrev pub EndFields : Type 0 → Type 0
EndFields A = Option Time × (Option (List (RevokedCertificateOutline A)) × Option (List (ExtensionOutline A)))

-- the fields as they stand in the SEQUENCE
abbrev pub TbsListFields : Type 0 → Type 0
TbsListFields A = Option Version × (RequiredFields A × EndFields A)

-- signature AlgorithmIdentifier, issuer Name, thisUpdate Time
abbrev pub required_fields : {A : Type 0} → Shape (RequiredFields A)
required_fields =
    join (λ j. j.0) (λ j. j.1) algorithm
    (join (λ j. j.0) (λ j. j.1) name time)

-- revokedCertificates SEQUENCE OF SEQUENCE { .. }; an empty list is read too
abbrev pub revoked_list : {A : Type 0} → Shape (List (RevokedCertificateOutline A))
revoked_list = tagged 48 (items revoked)

-- crlExtensions [0] EXPLICIT Extensions
abbrev pub extensions_field : {A : Type 0} → Shape (List (ExtensionOutline A))
extensions_field = tagged 160 extensions

abbrev pub ends : {A : Type 0} → Shape (EndFields A)
ends =
    join (λ j. j.0) (λ j. j.1) (optional time)
    (join (λ j. j.0) (λ j. j.1) (optional revoked_list) (optional extensions_field))

abbrev pub tbs_list_inner : {A : Type 0} → Shape (TbsListFields A)
tbs_list_inner =
    join (λ j. j.0) (λ j. j.1) (optional version)
    (join (λ j. j.0) (λ j. j.1) required_fields ends)

-- TBSCertList ::= SEQUENCE { version Version OPTIONAL, signature AlgorithmIdentifier, issuer Name, thisUpdate Time,
-- nextUpdate Time OPTIONAL, revokedCertificates SEQUENCE OF SEQUENCE { userCertificate CertificateSerialNumber,
-- revocationDate Time, crlEntryExtensions Extensions OPTIONAL } OPTIONAL, crlExtensions [0] EXPLICIT Extensions OPTIONAL }
-- (RFC 5280, 5.1)
abbrev pub tbs_list_base : {A : Type 0} → Shape (TbsListFields A)
tbs_list_base = tagged 48 tbs_list_inner

-- a version that is there is version 2 (RFC 5280, 5.1 and 5.1.2.1)
abbrev pub version_fits : Option Version → Bool
version_fits None = true
version_fits (Some V1) = false
version_fits (Some V2) = true
version_fits (Some V3) = false

abbrev pub tbs_list_with : {A : Type 0} → Version → RequiredFields A → Option Time → Option (List (RevokedCertificateOutline A)) → List (ExtensionOutline A) → TbsCertListOutline A
tbs_list_with n c t r es = record {
  version = n;
  signature = c.0;
  issuer = c.1.0;
  this_update = c.1.1;
  next_update = t;
  revoked_certificates = r;
  crl_extensions = es;
}

abbrev pub required_of : {A : Type 0} → TbsCertListOutline A → RequiredFields A
required_of v = (v.signature, (v.issuer, v.this_update))

-- a version that is left out is version 1 (RFC 5280, 5.1.2.1), and a list that is left out is empty
abbrev pub tbs_list_of : {A : Type 0} → TbsListFields A → TbsCertListOutline A
tbs_list_of f = tbs_list_with (version_in f.0) f.1.0 f.1.1.0 f.1.1.1.0 (list_in f.1.1.1.1)

-- the fields that are written: neither version 1 nor an empty list of extensions
abbrev pub tbs_list_back : {A : Type 0} → TbsCertListOutline A → TbsListFields A
tbs_list_back v = (written_version v.version, (required_of v, (v.next_update, (v.revoked_certificates, written_list v.crl_extensions))))

-- lists whose version doesn't fit aren't read
abbrev pub tbs_list_means : {A : Type 0} → TbsListFields A → Option (TbsCertListOutline A × List Deviation)
tbs_list_means f = read_if (version_fits f.0) (tbs_list_of f) (list_kinds f.1.1.1.1)

-- they are written and not read back
abbrev pub tbs_list_meaning : {A : Type 0} → Meaning (TbsListFields A) (TbsCertListOutline A)
tbs_list_meaning = record {
  of = tbs_list_means;
  back = tbs_list_back;
  valid = λ v. tbs_list_inner.valid (tbs_list_back v);
  readable = λ v. (version_fits (written_version v.version) ≡ true) × tbs_list_inner.readable (tbs_list_back v);
}

abbrev pub tbs_list : {A : Type 0} → Shape (TbsCertListOutline A)
tbs_list = seen tbs_list_meaning tbs_list_base

-- what is kept of the fields that are gone past: the version, what is there, and whether the lists are empty
abbrev pub EndsBrief : Type 0
EndsBrief = Option (Unit {0}) × (Option Bool × Option Bool)

abbrev pub tbs_list_brief : {A : Type 0} → TbsListFields A → Option Version × (Unit {0} × EndsBrief)
tbs_list_brief f = (brief_if (λ v. v) f.0, (tt, (brief_if (λ t. tt) f.1.1.0, (brief_if no_items f.1.1.1.0, brief_if no_items f.1.1.1.1))))

-- the version and the extensions as they are spelled, and each field, with its tag, behind those before it
pub record TbsListAt {A : Type 0} (v : TbsCertListOutline A) (string : List ℕ) (y : Tally) : Type 0 where
  pub content : List ℕ
  pub bytes : string ≡ element 48 content
  pub version : Option Version
  pub version_means : version_in version ≡ v.version
  pub extensions : Option (List (ExtensionOutline A))
  pub extensions_mean : list_in extensions ≡ v.crl_extensions
  pub fields : Stands tbs_list_inner (version, (required_of v, (v.next_update, (v.revoked_certificates, extensions)))) (header content) content string y

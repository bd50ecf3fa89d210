-- Revoked certificates, with extensions of any kind (RFC 5280, 5.1 and 5.1.2.6).
use Rattle.std.specs.Prelude.{◌≡◌, ℕ, List, Option, Some}
use Rattle.x509_der.specs.Types.{Deviation}
use Rattle.x509_der.specs.Element.{element, header}
use Rattle.x509_der.specs.Fields.{Stands}
use Rattle.x509_der.specs.Integer.{integers}
use Rattle.x509_der.specs.Join.{join}
use Rattle.x509_der.specs.Optional.{optional}
use Rattle.x509_der.specs.Shape.{Shape}
use Rattle.x509_der.specs.Tagged.{tagged}
use Rattle.x509_der.specs.Tally.{Tally}
use Rattle.x509_der.specs.View.{Meaning, seen}
use Rattle.x509_names.specs.Time.{time}
use Rattle.x509_names.specs.Types.{Time}
use Rattle.x509_outline.specs.Versions.{list_in, written_list, list_kinds}
use Rattle.x509_outline_parts.specs.Extensions.{extensions}
use Rattle.x509_outline_parts.specs.declared.extension_outline.ExtensionOutline.{ExtensionOutline}
use Rattle.x509_list_outlines.specs.declared.revoked_certificate_outline.RevokedCertificateOutline.{RevokedCertificateOutline}

-- the serial number, the date, and the extensions, where they are spelled
abbrev pub RevokedFields : Type 0 → Type 0
RevokedFields A = List ℕ × (Time × Option (List (ExtensionOutline A)))

-- userCertificate CertificateSerialNumber, revocationDate Time, crlEntryExtensions Extensions OPTIONAL;
-- CertificateSerialNumber ::= INTEGER
abbrev pub revoked_inner : {A : Type 0} → Shape (RevokedFields A)
revoked_inner =
    join (λ j. j.0) (λ j. j.1) (tagged 2 integers)
    (join (λ j. j.0) (λ j. j.1) time (optional extensions))

-- SEQUENCE { userCertificate CertificateSerialNumber, revocationDate Time, crlEntryExtensions Extensions OPTIONAL } (RFC
-- 5280, 5.1)
abbrev pub revoked_base : {A : Type 0} → Shape (RevokedFields A)
revoked_base = tagged 48 revoked_inner

abbrev pub revoked_of : {A : Type 0} → RevokedFields A → RevokedCertificateOutline A
revoked_of f = record { user_certificate = f.0; revocation_date = f.1.0; crl_entry_extensions = list_in f.1.1 }

-- what the fields mean, and the deviation in them
abbrev pub revoked_means : {A : Type 0} → RevokedFields A → Option (RevokedCertificateOutline A × List Deviation)
revoked_means f = Some (revoked_of f, list_kinds f.1.1)

-- the fields that are written: no empty list
abbrev pub revoked_back : {A : Type 0} → RevokedCertificateOutline A → RevokedFields A
revoked_back v = (v.user_certificate, (v.revocation_date, written_list v.crl_entry_extensions))

abbrev pub revoked_meaning : {A : Type 0} → Meaning (RevokedFields A) (RevokedCertificateOutline A)
revoked_meaning = record {
  of = revoked_means;
  back = revoked_back;
  valid = λ v. revoked_inner.valid (revoked_back v);
  readable = λ v. revoked_inner.readable (revoked_back v);
}

abbrev pub revoked : {A : Type 0} → Shape (RevokedCertificateOutline A)
revoked = seen revoked_meaning revoked_base

-- the extensions as they are spelled, and each field, with its tag, behind those before it
pub record RevokedAt {A : Type 0} (v : RevokedCertificateOutline A) (string : List ℕ) (y : Tally) : Type 0 where
  pub content : List ℕ
  pub bytes : string ≡ element 48 content
  pub extensions : Option (List (ExtensionOutline A))
  pub extensions_mean : list_in extensions ≡ v.crl_entry_extensions
  pub fields : Stands revoked_inner (v.user_certificate, (v.revocation_date, extensions)) (header content) content string y

-- What another view lends isn't what a rule looks for.
use Rattle.std.proofs.Common.{◌≡◌, false, refl}
use Rattle.picky_asn1_x509_parts.specs.Extensions.{viewed}
use Rattle.picky_asn1_x509_parts.specs.declared.extension_view.ExtensionView.{ExtensionView}
use Rattle.picky_asn1_x509_parts.specs.declared.extension_view.ExtensionView.TheVariants as view
use Rattle.x509_findings_parts.specs.Extensions.{allows_signing, forbids_signing, has_any_purpose, has_no_purpose, identifies_authority_key, limits_no_path, limits_path, makes_authority, names_authority_by_half, names_authority_key, names_issuer, names_no_issuer, names_no_subject, names_subject, names_subject_key, says_usage, spells_default}
use Rattle.x509_findings_parts.specs.AlternativeNames.{name_has_fault, names_mailbox}
use Rattle.x509_findings_parts.specs.declared.alternative_name.NameFault.{NameFault}
use Rattle.x509_findings_parts.specs.Usages.{allows_nothing, ends_unset}

-- what another view lends makes no authority
pub other-makes_authority : {A : Type 0} (v : ExtensionView A) → ((x : _) → v ≡ view.BasicConstraints x → ⊥) → makes_authority (viewed v) ≡ false
other-makes_authority (view.AuthorityKeyIdentifier x) h = refl
other-makes_authority (view.SubjectKeyIdentifier x) h = refl
other-makes_authority (view.KeyUsage x) h = refl
other-makes_authority (view.SubjectAltName x) h = refl
other-makes_authority (view.IssuerAltName x) h = refl
other-makes_authority (view.BasicConstraints x) h = absurd (h x refl)
other-makes_authority (view.ExtendedKeyUsage x) h = refl
other-makes_authority (view.Generic x) h = refl
other-makes_authority (view.CrlNumber x) h = refl

-- what another view lends limits no path
pub other-limits_no_path : {A : Type 0} (v : ExtensionView A) → ((x : _) → v ≡ view.BasicConstraints x → ⊥) → limits_no_path (viewed v) ≡ false
other-limits_no_path (view.AuthorityKeyIdentifier x) h = refl
other-limits_no_path (view.SubjectKeyIdentifier x) h = refl
other-limits_no_path (view.KeyUsage x) h = refl
other-limits_no_path (view.SubjectAltName x) h = refl
other-limits_no_path (view.IssuerAltName x) h = refl
other-limits_no_path (view.BasicConstraints x) h = absurd (h x refl)
other-limits_no_path (view.ExtendedKeyUsage x) h = refl
other-limits_no_path (view.Generic x) h = refl
other-limits_no_path (view.CrlNumber x) h = refl

-- what another view lends limits the path of no authority
pub other-limits_path : {A : Type 0} (v : ExtensionView A) → ((x : _) → v ≡ view.BasicConstraints x → ⊥) → limits_path (viewed v) ≡ false
other-limits_path (view.AuthorityKeyIdentifier x) h = refl
other-limits_path (view.SubjectKeyIdentifier x) h = refl
other-limits_path (view.KeyUsage x) h = refl
other-limits_path (view.SubjectAltName x) h = refl
other-limits_path (view.IssuerAltName x) h = refl
other-limits_path (view.BasicConstraints x) h = absurd (h x refl)
other-limits_path (view.ExtendedKeyUsage x) h = refl
other-limits_path (view.Generic x) h = refl
other-limits_path (view.CrlNumber x) h = refl

-- what another view lends allows no signing
pub other-allows_signing : {A : Type 0} (v : ExtensionView A) → ((x : _) → v ≡ view.KeyUsage x → ⊥) → allows_signing (viewed v) ≡ false
other-allows_signing (view.AuthorityKeyIdentifier x) h = refl
other-allows_signing (view.SubjectKeyIdentifier x) h = refl
other-allows_signing (view.KeyUsage x) h = absurd (h x refl)
other-allows_signing (view.SubjectAltName x) h = refl
other-allows_signing (view.IssuerAltName x) h = refl
other-allows_signing (view.BasicConstraints x) h = refl
other-allows_signing (view.ExtendedKeyUsage x) h = refl
other-allows_signing (view.Generic x) h = refl
other-allows_signing (view.CrlNumber x) h = refl

-- what another view lends forbids no signing
pub other-forbids_signing : {A : Type 0} (v : ExtensionView A) → ((x : _) → v ≡ view.KeyUsage x → ⊥) → forbids_signing (viewed v) ≡ false
other-forbids_signing (view.AuthorityKeyIdentifier x) h = refl
other-forbids_signing (view.SubjectKeyIdentifier x) h = refl
other-forbids_signing (view.KeyUsage x) h = absurd (h x refl)
other-forbids_signing (view.SubjectAltName x) h = refl
other-forbids_signing (view.IssuerAltName x) h = refl
other-forbids_signing (view.BasicConstraints x) h = refl
other-forbids_signing (view.ExtendedKeyUsage x) h = refl
other-forbids_signing (view.Generic x) h = refl
other-forbids_signing (view.CrlNumber x) h = refl

-- what another view lends names no subject
pub other-names_subject : {A : Type 0} (v : ExtensionView A) → ((x : _) → v ≡ view.SubjectAltName x → ⊥) → names_subject (viewed v) ≡ false
other-names_subject (view.AuthorityKeyIdentifier x) h = refl
other-names_subject (view.SubjectKeyIdentifier x) h = refl
other-names_subject (view.KeyUsage x) h = refl
other-names_subject (view.SubjectAltName x) h = absurd (h x refl)
other-names_subject (view.IssuerAltName x) h = refl
other-names_subject (view.BasicConstraints x) h = refl
other-names_subject (view.ExtendedKeyUsage x) h = refl
other-names_subject (view.Generic x) h = refl
other-names_subject (view.CrlNumber x) h = refl

-- what another view lends is no list of the subject's names
pub other-names_no_subject : {A : Type 0} (v : ExtensionView A) → ((x : _) → v ≡ view.SubjectAltName x → ⊥) → names_no_subject (viewed v) ≡ false
other-names_no_subject (view.AuthorityKeyIdentifier x) h = refl
other-names_no_subject (view.SubjectKeyIdentifier x) h = refl
other-names_no_subject (view.KeyUsage x) h = refl
other-names_no_subject (view.SubjectAltName x) h = absurd (h x refl)
other-names_no_subject (view.IssuerAltName x) h = refl
other-names_no_subject (view.BasicConstraints x) h = refl
other-names_no_subject (view.ExtendedKeyUsage x) h = refl
other-names_no_subject (view.Generic x) h = refl
other-names_no_subject (view.CrlNumber x) h = refl

-- what another view lends is no list of the issuer's names
pub other-names_no_issuer : {A : Type 0} (v : ExtensionView A) → ((x : _) → v ≡ view.IssuerAltName x → ⊥) → names_no_issuer (viewed v) ≡ false
other-names_no_issuer (view.AuthorityKeyIdentifier x) h = refl
other-names_no_issuer (view.SubjectKeyIdentifier x) h = refl
other-names_no_issuer (view.KeyUsage x) h = refl
other-names_no_issuer (view.SubjectAltName x) h = refl
other-names_no_issuer (view.IssuerAltName x) h = absurd (h x refl)
other-names_no_issuer (view.BasicConstraints x) h = refl
other-names_no_issuer (view.ExtendedKeyUsage x) h = refl
other-names_no_issuer (view.Generic x) h = refl
other-names_no_issuer (view.CrlNumber x) h = refl

-- what another view lends is no list of purposes
pub other-has_no_purpose : {A : Type 0} (v : ExtensionView A) → ((x : _) → v ≡ view.ExtendedKeyUsage x → ⊥) → has_no_purpose (viewed v) ≡ false
other-has_no_purpose (view.AuthorityKeyIdentifier x) h = refl
other-has_no_purpose (view.SubjectKeyIdentifier x) h = refl
other-has_no_purpose (view.KeyUsage x) h = refl
other-has_no_purpose (view.SubjectAltName x) h = refl
other-has_no_purpose (view.IssuerAltName x) h = refl
other-has_no_purpose (view.BasicConstraints x) h = refl
other-has_no_purpose (view.ExtendedKeyUsage x) h = absurd (h x refl)
other-has_no_purpose (view.Generic x) h = refl
other-has_no_purpose (view.CrlNumber x) h = refl

-- what another view lends says not which key signed
pub other-names_authority_key : {A : Type 0} (v : ExtensionView A) → ((x : _) → v ≡ view.AuthorityKeyIdentifier x → ⊥) → names_authority_key (viewed v) ≡ false
other-names_authority_key (view.AuthorityKeyIdentifier x) h = absurd (h x refl)
other-names_authority_key (view.SubjectKeyIdentifier x) h = refl
other-names_authority_key (view.KeyUsage x) h = refl
other-names_authority_key (view.SubjectAltName x) h = refl
other-names_authority_key (view.IssuerAltName x) h = refl
other-names_authority_key (view.BasicConstraints x) h = refl
other-names_authority_key (view.ExtendedKeyUsage x) h = refl
other-names_authority_key (view.Generic x) h = refl
other-names_authority_key (view.CrlNumber x) h = refl

-- what another view lends identifies no certified key
pub other-names_subject_key : {A : Type 0} (v : ExtensionView A) → ((x : _) → v ≡ view.SubjectKeyIdentifier x → ⊥) → names_subject_key (viewed v) ≡ false
other-names_subject_key (view.AuthorityKeyIdentifier x) h = refl
other-names_subject_key (view.SubjectKeyIdentifier x) h = absurd (h x refl)
other-names_subject_key (view.KeyUsage x) h = refl
other-names_subject_key (view.SubjectAltName x) h = refl
other-names_subject_key (view.IssuerAltName x) h = refl
other-names_subject_key (view.BasicConstraints x) h = refl
other-names_subject_key (view.ExtendedKeyUsage x) h = refl
other-names_subject_key (view.Generic x) h = refl
other-names_subject_key (view.CrlNumber x) h = refl

-- what another view lends spells out no default
pub other-spells_default : {A : Type 0} (v : ExtensionView A) → ((x : _) → v ≡ view.BasicConstraints x → ⊥) → spells_default (viewed v) ≡ false
other-spells_default (view.AuthorityKeyIdentifier x) h = refl
other-spells_default (view.SubjectKeyIdentifier x) h = refl
other-spells_default (view.KeyUsage x) h = refl
other-spells_default (view.SubjectAltName x) h = refl
other-spells_default (view.IssuerAltName x) h = refl
other-spells_default (view.BasicConstraints x) h = absurd (h x refl)
other-spells_default (view.ExtendedKeyUsage x) h = refl
other-spells_default (view.Generic x) h = refl
other-spells_default (view.CrlNumber x) h = refl

-- what another view lends is no usage with nothing in it
pub other-allows_nothing : {A : Type 0} (v : ExtensionView A) → ((x : _) → v ≡ view.KeyUsage x → ⊥) → allows_nothing (viewed v) ≡ false
other-allows_nothing (view.AuthorityKeyIdentifier x) h = refl
other-allows_nothing (view.SubjectKeyIdentifier x) h = refl
other-allows_nothing (view.KeyUsage x) h = absurd (h x refl)
other-allows_nothing (view.SubjectAltName x) h = refl
other-allows_nothing (view.IssuerAltName x) h = refl
other-allows_nothing (view.BasicConstraints x) h = refl
other-allows_nothing (view.ExtendedKeyUsage x) h = refl
other-allows_nothing (view.Generic x) h = refl
other-allows_nothing (view.CrlNumber x) h = refl

-- what another view lends is no usage whose last bit is unset
pub other-ends_unset : {A : Type 0} (v : ExtensionView A) → ((x : _) → v ≡ view.KeyUsage x → ⊥) → ends_unset (viewed v) ≡ false
other-ends_unset (view.AuthorityKeyIdentifier x) h = refl
other-ends_unset (view.SubjectKeyIdentifier x) h = refl
other-ends_unset (view.KeyUsage x) h = absurd (h x refl)
other-ends_unset (view.SubjectAltName x) h = refl
other-ends_unset (view.IssuerAltName x) h = refl
other-ends_unset (view.BasicConstraints x) h = refl
other-ends_unset (view.ExtendedKeyUsage x) h = refl
other-ends_unset (view.Generic x) h = refl
other-ends_unset (view.CrlNumber x) h = refl

-- what another view lends says nothing of usages
pub other-says_usage : {A : Type 0} (v : ExtensionView A) → ((x : _) → v ≡ view.KeyUsage x → ⊥) → says_usage (viewed v) ≡ false
other-says_usage (view.AuthorityKeyIdentifier x) h = refl
other-says_usage (view.SubjectKeyIdentifier x) h = refl
other-says_usage (view.KeyUsage x) h = absurd (h x refl)
other-says_usage (view.SubjectAltName x) h = refl
other-says_usage (view.IssuerAltName x) h = refl
other-says_usage (view.BasicConstraints x) h = refl
other-says_usage (view.ExtendedKeyUsage x) h = refl
other-says_usage (view.Generic x) h = refl
other-says_usage (view.CrlNumber x) h = refl

-- what another view lends names no issuer
pub other-names_issuer : {A : Type 0} (v : ExtensionView A) → ((x : _) → v ≡ view.IssuerAltName x → ⊥) → names_issuer (viewed v) ≡ false
other-names_issuer (view.AuthorityKeyIdentifier x) h = refl
other-names_issuer (view.SubjectKeyIdentifier x) h = refl
other-names_issuer (view.KeyUsage x) h = refl
other-names_issuer (view.SubjectAltName x) h = refl
other-names_issuer (view.IssuerAltName x) h = absurd (h x refl)
other-names_issuer (view.BasicConstraints x) h = refl
other-names_issuer (view.ExtendedKeyUsage x) h = refl
other-names_issuer (view.Generic x) h = refl
other-names_issuer (view.CrlNumber x) h = refl

-- what another view lends says not which key signed, by its identifier
pub other-identifies_authority_key : {A : Type 0} (v : ExtensionView A) → ((x : _) → v ≡ view.AuthorityKeyIdentifier x → ⊥) → identifies_authority_key (viewed v) ≡ false
other-identifies_authority_key (view.AuthorityKeyIdentifier x) h = absurd (h x refl)
other-identifies_authority_key (view.SubjectKeyIdentifier x) h = refl
other-identifies_authority_key (view.KeyUsage x) h = refl
other-identifies_authority_key (view.SubjectAltName x) h = refl
other-identifies_authority_key (view.IssuerAltName x) h = refl
other-identifies_authority_key (view.BasicConstraints x) h = refl
other-identifies_authority_key (view.ExtendedKeyUsage x) h = refl
other-identifies_authority_key (view.Generic x) h = refl
other-identifies_authority_key (view.CrlNumber x) h = refl

-- what another view lends names the certificate of no key that signed
pub other-names_authority_by_half : {A : Type 0} (v : ExtensionView A) → ((x : _) → v ≡ view.AuthorityKeyIdentifier x → ⊥) → names_authority_by_half (viewed v) ≡ false
other-names_authority_by_half (view.AuthorityKeyIdentifier x) h = absurd (h x refl)
other-names_authority_by_half (view.SubjectKeyIdentifier x) h = refl
other-names_authority_by_half (view.KeyUsage x) h = refl
other-names_authority_by_half (view.SubjectAltName x) h = refl
other-names_authority_by_half (view.IssuerAltName x) h = refl
other-names_authority_by_half (view.BasicConstraints x) h = refl
other-names_authority_by_half (view.ExtendedKeyUsage x) h = refl
other-names_authority_by_half (view.Generic x) h = refl
other-names_authority_by_half (view.CrlNumber x) h = refl

-- what another view lends allows no purpose
pub other-has_any_purpose : {A : Type 0} (v : ExtensionView A) → ((x : _) → v ≡ view.ExtendedKeyUsage x → ⊥) → has_any_purpose (viewed v) ≡ false
other-has_any_purpose (view.AuthorityKeyIdentifier x) h = refl
other-has_any_purpose (view.SubjectKeyIdentifier x) h = refl
other-has_any_purpose (view.KeyUsage x) h = refl
other-has_any_purpose (view.SubjectAltName x) h = refl
other-has_any_purpose (view.IssuerAltName x) h = refl
other-has_any_purpose (view.BasicConstraints x) h = refl
other-has_any_purpose (view.ExtendedKeyUsage x) h = absurd (h x refl)
other-has_any_purpose (view.Generic x) h = refl
other-has_any_purpose (view.CrlNumber x) h = refl

-- what another view lends has no names
pub other-name_has_fault : {A : Type 0} (f : NameFault) (v : ExtensionView A) → ((x : _) → v ≡ view.SubjectAltName x → ⊥) → ((x : _) → v ≡ view.IssuerAltName x → ⊥) → name_has_fault f (viewed v) ≡ false
other-name_has_fault f (view.AuthorityKeyIdentifier x) h k = refl
other-name_has_fault f (view.SubjectKeyIdentifier x) h k = refl
other-name_has_fault f (view.KeyUsage x) h k = refl
other-name_has_fault f (view.SubjectAltName x) h k = absurd (h x refl)
other-name_has_fault f (view.IssuerAltName x) h k = absurd (k x refl)
other-name_has_fault f (view.BasicConstraints x) h k = refl
other-name_has_fault f (view.ExtendedKeyUsage x) h k = refl
other-name_has_fault f (view.Generic x) h k = refl
other-name_has_fault f (view.CrlNumber x) h k = refl

-- what another view lends names no mailbox
pub other-names_mailbox : {A : Type 0} (v : ExtensionView A) → ((x : _) → v ≡ view.SubjectAltName x → ⊥) → names_mailbox (viewed v) ≡ false
other-names_mailbox (view.AuthorityKeyIdentifier x) h = refl
other-names_mailbox (view.SubjectKeyIdentifier x) h = refl
other-names_mailbox (view.KeyUsage x) h = refl
other-names_mailbox (view.SubjectAltName x) h = absurd (h x refl)
other-names_mailbox (view.IssuerAltName x) h = refl
other-names_mailbox (view.BasicConstraints x) h = refl
other-names_mailbox (view.ExtendedKeyUsage x) h = refl
other-names_mailbox (view.Generic x) h = refl
other-names_mailbox (view.CrlNumber x) h = refl

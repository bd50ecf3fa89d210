-- What is asked of the extensions of a certificate (RFC 5280, 4.2.1).
use Rattle.std.specs.Prelude.{Bool, true, false, not, ◌&&◌, ◌||◌, is_some, slice_index_or, unwrap_or}
use Rattle.std.specs.List.{list_any}
use Rattle.x509_der.specs.ObjectIdentifier.{is_arcs}
use Rattle.x509_der.specs.Items.{no_items}
use Rattle.picky_asn1_x509_parts.specs.Extensions.{any_usage_arcs}
use Rattle.picky_asn1_x509_parts.specs.declared.extension_value.ExtensionValue.{ExtensionValue}
use Rattle.picky_asn1_x509_parts.specs.declared.extension_value.ExtensionValue.TheVariants as value

-- basic constraints that say that the subject is an authority: cA is FALSE by default (4.2.1.9)
abbrev pub makes_authority : {A : Type 0} → ExtensionValue A → Bool
makes_authority (value.BasicConstraints constraints) = unwrap_or constraints.ca false
makes_authority v = false

-- basic constraints with a path length, where the subject is no authority (4.2.1.9)
abbrev pub limits_no_path : {A : Type 0} → ExtensionValue A → Bool
limits_no_path (value.BasicConstraints constraints) = is_some constraints.pathlen && not (unwrap_or constraints.ca false)
limits_no_path v = false

-- basic constraints with a path length, where the subject is an authority (4.2.1.9)
abbrev pub limits_path : {A : Type 0} → ExtensionValue A → Bool
limits_path (value.BasicConstraints constraints) = is_some constraints.pathlen && unwrap_or constraints.ca false
limits_path v = false

-- a key usage with keyCertSign, the bit 5 (4.2.1.3)
abbrev pub allows_signing : {A : Type 0} → ExtensionValue A → Bool
allows_signing (value.KeyUsage bits) = slice_index_or bits 5 false
allows_signing v = false

-- a key usage without it: the key is for other purposes than signing certificates
abbrev pub forbids_signing : {A : Type 0} → ExtensionValue A → Bool
forbids_signing (value.KeyUsage bits) = not (slice_index_or bits 5 false)
forbids_signing v = false

-- a key usage, whatever it says
abbrev pub says_usage : {A : Type 0} → ExtensionValue A → Bool
says_usage (value.KeyUsage bits) = true
says_usage v = false

-- further names of the subject (4.2.1.6)
abbrev pub names_subject : {A : Type 0} → ExtensionValue A → Bool
names_subject (value.SubjectAltName names) = true
names_subject v = false

-- further names of the issuer (4.2.1.7)
abbrev pub names_issuer : {A : Type 0} → ExtensionValue A → Bool
names_issuer (value.IssuerAltName names) = true
names_issuer v = false

-- which key signed (4.2.1.1)
abbrev pub names_authority_key : {A : Type 0} → ExtensionValue A → Bool
names_authority_key (value.AuthorityKeyIdentifier key) = true
names_authority_key v = false

-- which key signed, by its identifier (4.2.1.1)
abbrev pub identifies_authority_key : {A : Type 0} → ExtensionValue A → Bool
identifies_authority_key (value.AuthorityKeyIdentifier key) = is_some key.key_identifier
identifies_authority_key v = false

-- one of two without the other
abbrev pub by_half : Bool → Bool → Bool
by_half a b = (a && not b) || (not a && b)

-- the name of the issuer's issuer without the serial number, or the reverse (A.2)
abbrev pub names_authority_by_half : {A : Type 0} → ExtensionValue A → Bool
names_authority_by_half (value.AuthorityKeyIdentifier key) = by_half (is_some key.issuer) (is_some key.serial_number)
names_authority_by_half v = false

-- the identifier of the certified key (4.2.1.2)
abbrev pub names_subject_key : {A : Type 0} → ExtensionValue A → Bool
names_subject_key (value.SubjectKeyIdentifier key) = true
names_subject_key v = false

-- basic constraints with a cA that is FALSE, the default, which DER leaves out (X.690, 11.5)
abbrev pub spells_default : {A : Type 0} → ExtensionValue A → Bool
spells_default (value.BasicConstraints constraints) = not (unwrap_or constraints.ca true)
spells_default v = false

-- lists that have one item at least: GeneralNames (4.2.1.6, 4.2.1.7) and ExtKeyUsageSyntax (4.2.1.12), SEQUENCE SIZE (1..MAX)
abbrev pub names_no_subject : {A : Type 0} → ExtensionValue A → Bool
names_no_subject (value.SubjectAltName names) = no_items names
names_no_subject v = false

abbrev pub names_no_issuer : {A : Type 0} → ExtensionValue A → Bool
names_no_issuer (value.IssuerAltName names) = no_items names
names_no_issuer v = false

abbrev pub has_no_purpose : {A : Type 0} → ExtensionValue A → Bool
has_no_purpose (value.ExtendedKeyUsage purposes) = no_items purposes
has_no_purpose v = false

-- a list of purposes with anyExtendedKeyUsage (4.2.1.12)
abbrev pub has_any_purpose : {A : Type 0} → ExtensionValue A → Bool
has_any_purpose (value.ExtendedKeyUsage purposes) = list_any (λ purpose. is_arcs purpose any_usage_arcs) purposes
has_any_purpose v = false

-- What is asked of the names in subjectAltName and issuerAltName (RFC 5280, 4.2.1.6, 4.2.1.7).
use Rattle.std.specs.Prelude.{ℕ, Bool, true, false, not, ◌&&◌, ◌||◌, ◌==◌, length}
use Rattle.std.specs.List.{list_any}
use Rattle.x509_der.specs.Items.{no_items}
use Rattle.x509_findings_parts.specs.Hosts.{has_scheme, is_host}
use Rattle.x509_names.specs.declared.general_name.GeneralName.{GeneralName}
use Rattle.x509_names.specs.declared.general_name.GeneralName.TheVariants as name
use Rattle.picky_asn1_x509_parts.specs.declared.extension_value.ExtensionValue.{ExtensionValue}
use Rattle.picky_asn1_x509_parts.specs.declared.extension_value.ExtensionValue.TheVariants as value
use Rattle.x509_findings_parts.specs.declared.alternative_name.NameFault.{NameFault}
use Rattle.x509_findings_parts.specs.declared.alternative_name.NameFault.TheVariants as fault

-- an iPAddress with neither four octets nor sixteen
abbrev pub is_odd_address : {A : Type 0} → GeneralName A → Bool
is_odd_address (name.IpAddress octets) = not ((length octets == 4) || (length octets == 16))
is_odd_address n = false

-- a text without characters, or a name without attributes
abbrev pub is_empty_name : {A : Type 0} → GeneralName A → Bool
is_empty_name (name.Rfc822Name text) = no_items text
is_empty_name (name.DnsName text) = no_items text
is_empty_name (name.DirectoryName sets) = no_items sets
is_empty_name (name.Uri text) = no_items text
is_empty_name n = false

-- the character @
abbrev pub is_at : ℕ → Bool
is_at character = character == 64

-- an rfc822Name that is no Mailbox, Local-part "@" Domain (RFC 2821, 4.1.2)
abbrev pub is_no_mailbox : {A : Type 0} → GeneralName A → Bool
is_no_mailbox (name.Rfc822Name text) = not (list_any is_at text)
is_no_mailbox n = false

-- a dNSName that isn't in the preferred name syntax
abbrev pub is_no_host : {A : Type 0} → GeneralName A → Bool
is_no_host (name.DnsName text) = not (no_items text) && not (is_host text)
is_no_host n = false

-- a uniformResourceIdentifier without a scheme: it must not be a relative one
abbrev pub is_no_uri : {A : Type 0} → GeneralName A → Bool
is_no_uri (name.Uri text) = not (no_items text) && not (has_scheme text)
is_no_uri n = false

abbrev pub is_mailbox : {A : Type 0} → GeneralName A → Bool
is_mailbox (name.Rfc822Name text) = true
is_mailbox n = false

abbrev pub has_fault : {A : Type 0} → NameFault → GeneralName A → Bool
has_fault fault.OddAddress n = is_odd_address n
has_fault fault.EmptyName n = is_empty_name n
has_fault fault.NoMailbox n = is_no_mailbox n
has_fault fault.NoHost n = is_no_host n
has_fault fault.NoScheme n = is_no_uri n

-- one of the names of subject or issuer has the fault
abbrev pub name_has_fault : {A : Type 0} → NameFault → ExtensionValue A → Bool
name_has_fault f (value.SubjectAltName names) = list_any (has_fault f) names
name_has_fault f (value.IssuerAltName names) = list_any (has_fault f) names
name_has_fault f v = false

-- one of the subject's names is an rfc822Name
abbrev pub names_mailbox : {A : Type 0} → ExtensionValue A → Bool
names_mailbox (value.SubjectAltName names) = list_any is_mailbox names
names_mailbox v = false

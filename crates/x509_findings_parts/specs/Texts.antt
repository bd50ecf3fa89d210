-- What is asked of the texts in a name (RFC 5280, 4.1.2.4 and A.1; X.520).
use Rattle.std.specs.Prelude.{ℕ, ◌*◌, Bool, true, false, not, ◌==◌, ◌&&◌, ◌||◌, nat_lt, length}
use Rattle.std.specs.Char.{is_ascii_alphabetic}
use Rattle.std.specs.List.{count_by, list_all, list_any}
use Rattle.x509_der.specs.Items.{no_items}
use Rattle.x509_names_parts.specs.declared.directory_string.DirectoryString.{DirectoryString}
use Rattle.x509_names_parts.specs.declared.directory_string.DirectoryString.TheVariants as string
use Rattle.x509_names.specs.Names.{Set}
use Rattle.x509_names.specs.declared.attribute_value.AttributeTypeAndValueParameters.{AttributeTypeAndValueParameters}
use Rattle.x509_names.specs.declared.attribute_value.AttributeTypeAndValueParameters.TheVariants as value
use Rattle.x509_findings_parts.specs.declared.text.TextFault.{TextFault}
use Rattle.x509_findings_parts.specs.declared.text.TextFault.TheVariants as fault

-- octets that begin a character in UTF-8: all but 80 to BF (RFC 3629, 3)
abbrev pub begins : ℕ → Bool
begins octet = nat_lt octet 128 || not (nat_lt octet 192)

-- more characters than a bound: of one octet each, of some in UTF-8, of two
abbrev pub is_longer_than : {A : Type 0} → ℕ → DirectoryString A → Bool
is_longer_than most (string.PrintableString octets) = nat_lt most (length octets)
is_longer_than most (string.Utf8String octets) = nat_lt most (count_by begins octets)
is_longer_than most (string.BmpString octets) = nat_lt (2 * most) (length octets)

-- the upper bounds of A.1: ub-common-name, ub-serial-number and so on. Countries have a size of their own
abbrev pub is_long_value : {A : Type 0} → AttributeTypeAndValueParameters A → Bool
is_long_value (value.CommonName text) = is_longer_than 64 text
is_long_value (value.SerialNumber text) = is_longer_than 64 text
is_long_value (value.OrganizationName text) = is_longer_than 64 text
is_long_value (value.OrganizationalUnitName text) = is_longer_than 64 text
is_long_value (value.LocalityName text) = is_longer_than 128 text
is_long_value (value.StateOrProvinceName text) = is_longer_than 128 text
is_long_value (value.Surname text) = is_longer_than 32768 text
is_long_value (value.GivenName text) = is_longer_than 32768 text
is_long_value (value.EmailAddress octets) = nat_lt 255 (length octets)
is_long_value v = false

-- no characters: a text has one at least (A.1)
abbrev pub is_blank : {A : Type 0} → DirectoryString A → Bool
is_blank (string.PrintableString octets) = no_items octets
is_blank (string.Utf8String octets) = no_items octets
is_blank (string.BmpString octets) = no_items octets

abbrev pub is_blank_value : {A : Type 0} → AttributeTypeAndValueParameters A → Bool
is_blank_value (value.CommonName text) = is_blank text
is_blank_value (value.Surname text) = is_blank text
is_blank_value (value.SerialNumber text) = is_blank text
is_blank_value (value.CountryName text) = is_blank text
is_blank_value (value.LocalityName text) = is_blank text
is_blank_value (value.StateOrProvinceName text) = is_blank text
is_blank_value (value.StreetName text) = is_blank text
is_blank_value (value.OrganizationName text) = is_blank text
is_blank_value (value.OrganizationalUnitName text) = is_blank text
is_blank_value (value.GivenName text) = is_blank text
is_blank_value (value.Phone text) = is_blank text
is_blank_value (value.EmailAddress octets) = no_items octets
is_blank_value (value.Custom element) = false

-- X520countryName ::= PrintableString (SIZE (2)), a code of ISO 3166 (A.1)
abbrev pub is_country : {A : Type 0} → DirectoryString A → Bool
is_country (string.PrintableString octets) = (length octets == 2) && list_all is_ascii_alphabetic octets
is_country text = false

abbrev pub is_no_country : {A : Type 0} → AttributeTypeAndValueParameters A → Bool
is_no_country (value.CountryName text) = not (is_country text)
is_no_country v = false

-- neither PrintableString nor UTF8String (4.1.2.4)
abbrev pub is_wide : {A : Type 0} → DirectoryString A → Bool
is_wide (string.BmpString octets) = true
is_wide text = false

-- X520SerialNumber ::= PrintableString (A.1)
abbrev pub is_no_printable : {A : Type 0} → DirectoryString A → Bool
is_no_printable (string.PrintableString octets) = false
is_no_printable text = true

abbrev pub is_foreign_value : {A : Type 0} → AttributeTypeAndValueParameters A → Bool
is_foreign_value (value.SerialNumber text) = is_no_printable text
is_foreign_value (value.CommonName text) = is_wide text
is_foreign_value (value.Surname text) = is_wide text
is_foreign_value (value.LocalityName text) = is_wide text
is_foreign_value (value.StateOrProvinceName text) = is_wide text
is_foreign_value (value.StreetName text) = is_wide text
is_foreign_value (value.OrganizationName text) = is_wide text
is_foreign_value (value.OrganizationalUnitName text) = is_wide text
is_foreign_value (value.GivenName text) = is_wide text
is_foreign_value (value.Phone text) = is_wide text
is_foreign_value v = false

abbrev pub has_text_fault : {A : Type 0} → TextFault → AttributeTypeAndValueParameters A → Bool
has_text_fault fault.Empty v = is_blank_value v
has_text_fault fault.Long v = is_long_value v
has_text_fault fault.NoCountry v = is_no_country v
has_text_fault fault.StringType v = is_foreign_value v

-- one of the attributes of a set has the fault
abbrev pub set_has_fault : {A : Type 0} → TextFault → Set A → Bool
set_has_fault f set = list_any (λ attribute. has_text_fault f attribute.value) set

-- an emailAddress
abbrev pub is_email : {A : Type 0} → AttributeTypeAndValueParameters A → Bool
is_email (value.EmailAddress octets) = true
is_email v = false

abbrev pub set_has_email : {A : Type 0} → Set A → Bool
set_has_email set = list_any (λ attribute. is_email attribute.value) set

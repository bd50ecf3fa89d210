-- The rules that certificates may break, by name, and the part of a certificate that each is about (RFC 5280, 4.1).
use Rattle.std.specs.Prelude.{ℕ, List, [], ◌∷◌, codes}
use Rattle.x509_rules.specs.declared.part.Part.{Part}
use Rattle.x509_rules.specs.declared.part.Part.TheVariants as part
use Rattle.x509_rules.specs.declared.rule.Rule.{Rule}
use Rattle.x509_rules.specs.declared.rule.Rule.TheVariants as rule

-- as the option --rule takes them
abbrev pub rule_name : Rule → List ℕ
rule_name rule.SerialNotPositive = codes "serial-not-positive"
rule_name rule.SerialTooLong = codes "serial-too-long"
rule_name rule.AlgorithmsDiffer = codes "algorithms-differ"
rule_name rule.SaltLengthSpelled = codes "salt-length-spelled"
rule_name rule.IssuerEmpty = codes "issuer-empty"
rule_name rule.IssuerSetEmpty = codes "issuer-set-empty"
rule_name rule.IssuerSetOrder = codes "issuer-set-order"
rule_name rule.IssuerTextEmpty = codes "issuer-text-empty"
rule_name rule.IssuerTextLong = codes "issuer-text-long"
rule_name rule.IssuerCountry = codes "issuer-country"
rule_name rule.IssuerStringType = codes "issuer-string-type"
rule_name rule.ValidityReversed = codes "validity-reversed"
rule_name rule.NotBeforeForm = codes "not-before-form"
rule_name rule.NotAfterForm = codes "not-after-form"
rule_name rule.SubjectEmpty = codes "subject-empty"
rule_name rule.AuthorityUnnamed = codes "authority-unnamed"
rule_name rule.SubjectSetEmpty = codes "subject-set-empty"
rule_name rule.SubjectSetOrder = codes "subject-set-order"
rule_name rule.SubjectTextEmpty = codes "subject-text-empty"
rule_name rule.SubjectTextLong = codes "subject-text-long"
rule_name rule.SubjectCountry = codes "subject-country"
rule_name rule.SubjectStringType = codes "subject-string-type"
rule_name rule.SubjectMailboxUnnamed = codes "subject-mailbox-unnamed"
rule_name rule.ModulusNotPositive = codes "modulus-not-positive"
rule_name rule.ModulusEven = codes "modulus-even"
rule_name rule.ModulusShort = codes "modulus-short"
rule_name rule.ExponentLow = codes "exponent-low"
rule_name rule.ExponentEven = codes "exponent-even"
rule_name rule.IssuerUniqueId = codes "issuer-unique-id"
rule_name rule.SubjectUniqueId = codes "subject-unique-id"
rule_name rule.ExtensionRepeated = codes "extension-repeated"
rule_name rule.CriticalUnknown = codes "critical-unknown"
rule_name rule.AuthorityKeyCritical = codes "authority-key-critical"
rule_name rule.AuthorityKeyMissing = codes "authority-key-missing"
rule_name rule.AuthorityKeyPartial = codes "authority-key-partial"
rule_name rule.SubjectKeyCritical = codes "subject-key-critical"
rule_name rule.SubjectKeyMissing = codes "subject-key-missing"
rule_name rule.KeyUsageEmpty = codes "key-usage-empty"
rule_name rule.KeyUsagePadded = codes "key-usage-padded"
rule_name rule.KeyUsageNotCritical = codes "key-usage-not-critical"
rule_name rule.SigningWithoutAuthority = codes "signing-without-authority"
rule_name rule.AuthorityWithoutSigning = codes "authority-without-signing"
rule_name rule.PolicyMappingsNotCritical = codes "policy-mappings-not-critical"
rule_name rule.SubjectNamesEmpty = codes "subject-names-empty"
rule_name rule.SubjectNamesCritical = codes "subject-names-critical"
rule_name rule.AlternativeNameEmpty = codes "alternative-name-empty"
rule_name rule.AddressLength = codes "address-length"
rule_name rule.MailboxWithoutAt = codes "mailbox-without-at"
rule_name rule.HostName = codes "host-name"
rule_name rule.UriWithoutScheme = codes "uri-without-scheme"
rule_name rule.IssuerNamesEmpty = codes "issuer-names-empty"
rule_name rule.IssuerNamesCritical = codes "issuer-names-critical"
rule_name rule.DirectoryAttributesCritical = codes "directory-attributes-critical"
rule_name rule.AuthorityNotCritical = codes "authority-not-critical"
rule_name rule.PathLengthIdle = codes "path-length-idle"
rule_name rule.PathLengthWithoutSigning = codes "path-length-without-signing"
rule_name rule.AuthorityDefaultSpelled = codes "authority-default-spelled"
rule_name rule.NameConstraintsNotCritical = codes "name-constraints-not-critical"
rule_name rule.NameConstraintsWithoutAuthority = codes "name-constraints-without-authority"
rule_name rule.PolicyConstraintsNotCritical = codes "policy-constraints-not-critical"
rule_name rule.PurposesEmpty = codes "purposes-empty"
rule_name rule.AnyPurposeCritical = codes "any-purpose-critical"
rule_name rule.RevocationPointsCritical = codes "revocation-points-critical"
rule_name rule.AnyPolicyNotCritical = codes "any-policy-not-critical"
rule_name rule.FreshestListCritical = codes "freshest-list-critical"
rule_name rule.AuthorityAccessCritical = codes "authority-access-critical"
rule_name rule.SubjectAccessCritical = codes "subject-access-critical"

-- where a broken rule is told
abbrev pub part_of : Rule → Part
part_of rule.SerialNotPositive = part.SerialNumber
part_of rule.SerialTooLong = part.SerialNumber
part_of rule.AlgorithmsDiffer = part.Signature
part_of rule.SaltLengthSpelled = part.Signature
part_of rule.IssuerEmpty = part.Issuer
part_of rule.IssuerSetEmpty = part.Issuer
part_of rule.IssuerSetOrder = part.Issuer
part_of rule.IssuerTextEmpty = part.Issuer
part_of rule.IssuerTextLong = part.Issuer
part_of rule.IssuerCountry = part.Issuer
part_of rule.IssuerStringType = part.Issuer
part_of rule.ValidityReversed = part.Validity
part_of rule.NotBeforeForm = part.Validity
part_of rule.NotAfterForm = part.Validity
part_of rule.SubjectEmpty = part.Subject
part_of rule.AuthorityUnnamed = part.Subject
part_of rule.SubjectSetEmpty = part.Subject
part_of rule.SubjectSetOrder = part.Subject
part_of rule.SubjectTextEmpty = part.Subject
part_of rule.SubjectTextLong = part.Subject
part_of rule.SubjectCountry = part.Subject
part_of rule.SubjectStringType = part.Subject
part_of rule.SubjectMailboxUnnamed = part.Subject
part_of rule.ModulusNotPositive = part.SubjectPublicKeyInfo
part_of rule.ModulusEven = part.SubjectPublicKeyInfo
part_of rule.ModulusShort = part.SubjectPublicKeyInfo
part_of rule.ExponentLow = part.SubjectPublicKeyInfo
part_of rule.ExponentEven = part.SubjectPublicKeyInfo
part_of rule.IssuerUniqueId = part.IssuerUniqueId
part_of rule.SubjectUniqueId = part.SubjectUniqueId
part_of rule.ExtensionRepeated = part.Extensions
part_of rule.CriticalUnknown = part.Extensions
part_of rule.AuthorityKeyCritical = part.Extensions
part_of rule.AuthorityKeyMissing = part.Extensions
part_of rule.AuthorityKeyPartial = part.Extensions
part_of rule.SubjectKeyCritical = part.Extensions
part_of rule.SubjectKeyMissing = part.Extensions
part_of rule.KeyUsageEmpty = part.Extensions
part_of rule.KeyUsagePadded = part.Extensions
part_of rule.KeyUsageNotCritical = part.Extensions
part_of rule.SigningWithoutAuthority = part.Extensions
part_of rule.AuthorityWithoutSigning = part.Extensions
part_of rule.PolicyMappingsNotCritical = part.Extensions
part_of rule.SubjectNamesEmpty = part.Extensions
part_of rule.SubjectNamesCritical = part.Extensions
part_of rule.AlternativeNameEmpty = part.Extensions
part_of rule.AddressLength = part.Extensions
part_of rule.MailboxWithoutAt = part.Extensions
part_of rule.HostName = part.Extensions
part_of rule.UriWithoutScheme = part.Extensions
part_of rule.IssuerNamesEmpty = part.Extensions
part_of rule.IssuerNamesCritical = part.Extensions
part_of rule.DirectoryAttributesCritical = part.Extensions
part_of rule.AuthorityNotCritical = part.Extensions
part_of rule.PathLengthIdle = part.Extensions
part_of rule.PathLengthWithoutSigning = part.Extensions
part_of rule.AuthorityDefaultSpelled = part.Extensions
part_of rule.NameConstraintsNotCritical = part.Extensions
part_of rule.NameConstraintsWithoutAuthority = part.Extensions
part_of rule.PolicyConstraintsNotCritical = part.Extensions
part_of rule.PurposesEmpty = part.Extensions
part_of rule.AnyPurposeCritical = part.Extensions
part_of rule.RevocationPointsCritical = part.Extensions
part_of rule.AnyPolicyNotCritical = part.Extensions
part_of rule.FreshestListCritical = part.Extensions
part_of rule.AuthorityAccessCritical = part.Extensions
part_of rule.SubjectAccessCritical = part.Extensions

-- all of them, in the order of the places
abbrev pub all_rules : List Rule
all_rules =
    rule.SerialNotPositive ∷ rule.SerialTooLong ∷ rule.AlgorithmsDiffer ∷ rule.SaltLengthSpelled ∷ rule.IssuerEmpty
    ∷ rule.IssuerSetEmpty ∷ rule.IssuerSetOrder ∷ rule.IssuerTextEmpty ∷ rule.IssuerTextLong ∷ rule.IssuerCountry
    ∷ rule.IssuerStringType ∷ rule.ValidityReversed ∷ rule.NotBeforeForm ∷ rule.NotAfterForm ∷ rule.SubjectEmpty
    ∷ rule.AuthorityUnnamed ∷ rule.SubjectSetEmpty ∷ rule.SubjectSetOrder ∷ rule.SubjectTextEmpty
    ∷ rule.SubjectTextLong ∷ rule.SubjectCountry ∷ rule.SubjectStringType ∷ rule.SubjectMailboxUnnamed
    ∷ rule.ModulusNotPositive ∷ rule.ModulusEven ∷ rule.ModulusShort ∷ rule.ExponentLow ∷ rule.ExponentEven
    ∷ rule.IssuerUniqueId ∷ rule.SubjectUniqueId ∷ rule.ExtensionRepeated ∷ rule.CriticalUnknown
    ∷ rule.AuthorityKeyCritical ∷ rule.AuthorityKeyMissing ∷ rule.AuthorityKeyPartial ∷ rule.SubjectKeyCritical
    ∷ rule.SubjectKeyMissing ∷ rule.KeyUsageEmpty ∷ rule.KeyUsagePadded ∷ rule.KeyUsageNotCritical
    ∷ rule.SigningWithoutAuthority ∷ rule.AuthorityWithoutSigning ∷ rule.PolicyMappingsNotCritical
    ∷ rule.SubjectNamesEmpty ∷ rule.SubjectNamesCritical ∷ rule.AlternativeNameEmpty ∷ rule.AddressLength
    ∷ rule.MailboxWithoutAt ∷ rule.HostName ∷ rule.UriWithoutScheme ∷ rule.IssuerNamesEmpty ∷ rule.IssuerNamesCritical
    ∷ rule.DirectoryAttributesCritical ∷ rule.AuthorityNotCritical ∷ rule.PathLengthIdle
    ∷ rule.PathLengthWithoutSigning ∷ rule.AuthorityDefaultSpelled ∷ rule.NameConstraintsNotCritical
    ∷ rule.NameConstraintsWithoutAuthority ∷ rule.PolicyConstraintsNotCritical ∷ rule.PurposesEmpty
    ∷ rule.AnyPurposeCritical ∷ rule.RevocationPointsCritical ∷ rule.AnyPolicyNotCritical ∷ rule.FreshestListCritical
    ∷ rule.AuthorityAccessCritical ∷ rule.SubjectAccessCritical ∷ []

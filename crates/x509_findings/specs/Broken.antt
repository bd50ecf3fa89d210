-- When a certificate breaks a rule: each rule by what its clause asks of the value.
use Rattle.std.specs.Prelude.{◌<◌, ℕ, List, length, take, slice_index_or, Option, Some, None, All}
use Rattle.picky_asn1_x509.specs.declared.certificate.Certificate.{Certificate}
use Rattle.x509_findings_parts.specs.declared.alternative_name.NameFault.TheVariants as fault
use Rattle.x509_findings_parts.specs.declared.extension.Feature.TheVariants as feature
use Rattle.x509_findings_parts.specs.declared.known.Known.TheVariants as known
use Rattle.x509_findings_parts.specs.declared.text.TextFault.TheVariants as text
use Rattle.x509_rules.specs.declared.rule.Rule.{Rule}
use Rattle.x509_rules.specs.declared.rule.Rule.TheVariants as rule
use Rattle.x509_findings.specs.Conditions.{Holds}
use Rattle.x509_findings.specs.declared.condition.Condition.{Condition}
use Rattle.x509_findings.specs.declared.condition.Condition.TheVariants as condition
use Rattle.x509_findings.specs.declared.condition.FieldFault.TheVariants as field
use Rattle.x509_findings.specs.declared.condition.OrderFault.TheVariants as order

-- what breaks each rule
abbrev pub condition_of : Rule → Condition
-- a positive integer of at most 20 octets (RFC 5280, 4.1.2.2)
condition_of rule.SerialNotPositive = condition.Field field.LowSerial
condition_of rule.SerialTooLong = condition.Field field.LongSerial
-- the same algorithm as in signatureAlgorithm (4.1.1.2, 4.1.2.3)
condition_of rule.AlgorithmsDiffer = condition.Field field.OtherAlgorithm
-- a salt length of 20 is the default (RFC 4055, 3.1), which is left out (X.690, 11.5)
condition_of rule.SaltLengthSpelled = condition.Field field.SpelledSalt
-- a non-empty distinguished name, of sets of one attribute at least, with texts of one character at least and as many as A.1 allows, in
-- PrintableString or UTF8String (4.1.2.4)
condition_of rule.IssuerEmpty = condition.Field field.NoIssuer
condition_of rule.IssuerSetEmpty = condition.Field field.EmptyIssuerSet
-- a SET OF is encoded in ascending order (X.690, 11.6)
condition_of rule.IssuerSetOrder = condition.Order order.UnsortedIssuer
condition_of rule.IssuerTextEmpty = condition.Issuer text.Empty
condition_of rule.IssuerTextLong = condition.Issuer text.Long
condition_of rule.IssuerCountry = condition.Issuer text.NoCountry
condition_of rule.IssuerStringType = condition.Issuer text.StringType
-- the period from notBefore through notAfter; dates through the year 2049 as UTCTime (4.1.2.5)
condition_of rule.ValidityReversed = condition.Field field.NoPeriod
condition_of rule.NotBeforeForm = condition.Field field.EarlyStart
condition_of rule.NotAfterForm = condition.Field field.EarlyEnd
-- an empty subject has a critical subjectAltName, and isn't that of an authority; an emailAddress is an rfc822Name too (4.1.2.6)
condition_of rule.SubjectEmpty = condition.Field field.NoSubject
condition_of rule.AuthorityUnnamed = condition.Field field.NoAuthority
condition_of rule.SubjectSetEmpty = condition.Field field.EmptySubjectSet
condition_of rule.SubjectSetOrder = condition.Order order.UnsortedSubject
condition_of rule.SubjectTextEmpty = condition.Subject text.Empty
condition_of rule.SubjectTextLong = condition.Subject text.Long
condition_of rule.SubjectCountry = condition.Subject text.NoCountry
condition_of rule.SubjectStringType = condition.Subject text.StringType
condition_of rule.SubjectMailboxUnnamed = condition.Field field.HiddenMailbox
-- RSA keys (RFC 8017, 3.1)
condition_of rule.ModulusNotPositive = condition.Field field.LowModulus
condition_of rule.ModulusEven = condition.Field field.EvenModulus
condition_of rule.ModulusShort = condition.Field field.ShortModulus
condition_of rule.ExponentLow = condition.Field field.LowExponent
condition_of rule.ExponentEven = condition.Field field.EvenExponent
-- no unique identifiers (RFC 5280, 4.1.2.8)
condition_of rule.IssuerUniqueId = condition.Field field.IssuerId
condition_of rule.SubjectUniqueId = condition.Field field.SubjectId
-- an extension stands there once (4.2)
condition_of rule.ExtensionRepeated = condition.Order order.RepeatedExtension
-- an extension that isn't known isn't critical (4.2)
condition_of rule.CriticalUnknown = condition.Has feature.CriticalUnknown
-- key identifiers aren't critical; a certificate that isn't self-issued has the identifier of the key that signed, and an
-- authority's that of its own; both parts of the name of the issuer's certificate, or none (4.2.1.1, 4.2.1.2, A.2)
condition_of rule.AuthorityKeyCritical = condition.Has feature.CriticalAuthorityKey
condition_of rule.AuthorityKeyMissing = condition.Field field.NoAuthorityKey
condition_of rule.AuthorityKeyPartial = condition.Has feature.PartialAuthorityKey
condition_of rule.SubjectKeyCritical = condition.Has feature.CriticalSubjectKey
condition_of rule.SubjectKeyMissing = condition.HasWithout feature.Authority feature.SubjectKey
-- at least one bit; trailing zero bits are removed; critical (4.2.1.3; X.690, 11.2.2)
condition_of rule.KeyUsageEmpty = condition.Has feature.NoUsages
condition_of rule.KeyUsagePadded = condition.Has feature.UnsetUsage
condition_of rule.KeyUsageNotCritical = condition.Has feature.UncriticalUsage
-- keyCertSign and cA go together (RFC 5280, 4.2.1.3, 4.2.1.9)
condition_of rule.SigningWithoutAuthority = condition.HasWithout feature.Signing feature.Authority
condition_of rule.AuthorityWithoutSigning = condition.HasWithout feature.Authority feature.Signing
-- critical (RFC 5280, 4.2.1.5)
condition_of rule.PolicyMappingsNotCritical = condition.Has (feature.Uncritical known.PolicyMappings)
-- lists of one name at least, none of them empty, with addresses of four octets or sixteen, mailboxes with an @, names of hosts and
-- absolute URIs; not critical, the subject's only where subject is empty (4.2.1.6, 4.2.1.7)
condition_of rule.SubjectNamesEmpty = condition.Has feature.NoSubjectNames
condition_of rule.SubjectNamesCritical = condition.Field field.NeedlessNames
condition_of rule.AlternativeNameEmpty = condition.Has (feature.FaultyName fault.EmptyName)
condition_of rule.AddressLength = condition.Has (feature.FaultyName fault.OddAddress)
condition_of rule.MailboxWithoutAt = condition.Has (feature.FaultyName fault.NoMailbox)
condition_of rule.HostName = condition.Has (feature.FaultyName fault.NoHost)
condition_of rule.UriWithoutScheme = condition.Has (feature.FaultyName fault.NoScheme)
condition_of rule.IssuerNamesEmpty = condition.Has feature.NoIssuerNames
condition_of rule.IssuerNamesCritical = condition.Has feature.CriticalIssuerNames
-- not critical (4.2.1.8)
condition_of rule.DirectoryAttributesCritical = condition.Has (feature.Critical known.SubjectDirectoryAttributes)
-- basic constraints of an authority are critical, unless its key is for other purposes than certificates; a path is limited only
-- where cA and keyCertSign are (4.2.1.9); a default is left out (X.690, 11.5)
condition_of rule.AuthorityNotCritical = condition.HasWithout feature.UncriticalAuthority feature.OtherUsage
condition_of rule.PathLengthIdle = condition.Has feature.IdlePathLength
condition_of rule.PathLengthWithoutSigning = condition.HasWithout feature.PathLength feature.Signing
condition_of rule.AuthorityDefaultSpelled = condition.Has feature.SpelledDefault
-- critical, and for authorities alone (RFC 5280, 4.2.1.10); critical (4.2.1.11)
condition_of rule.NameConstraintsNotCritical = condition.Has (feature.Uncritical known.NameConstraints)
condition_of rule.NameConstraintsWithoutAuthority = condition.HasWithout (feature.Has known.NameConstraints) feature.Authority
condition_of rule.PolicyConstraintsNotCritical = condition.Has (feature.Uncritical known.PolicyConstraints)
-- a list of one purpose at least, and not critical where it allows any (4.2.1.12)
condition_of rule.PurposesEmpty = condition.Has feature.NoPurposes
condition_of rule.AnyPurposeCritical = condition.Has feature.CriticalAnyPurpose
-- not critical (4.2.1.13); critical (4.2.1.14); not critical (4.2.1.15, 4.2.2.1, 4.2.2.2)
condition_of rule.RevocationPointsCritical = condition.Has (feature.Critical known.CrlDistributionPoints)
condition_of rule.AnyPolicyNotCritical = condition.Has (feature.Uncritical known.InhibitAnyPolicy)
condition_of rule.FreshestListCritical = condition.Has (feature.Critical known.FreshestCrl)
condition_of rule.AuthorityAccessCritical = condition.Has (feature.Critical known.AuthorityInfoAccess)
condition_of rule.SubjectAccessCritical = condition.Has (feature.Critical known.SubjectInfoAccess)

abbrev pub Broken : {A : Type 0} → Rule → Certificate A → Type 0
Broken r c = Holds (condition_of r) c

-- none of some rules is broken
abbrev pub NoneBroken : {A : Type 0} → Certificate A → List Rule → Type 0
NoneBroken c rules = All (λ r. Broken r c → ⊥) rules

-- of some rules the first that is broken, with so many before it
pub record Breaks {A : Type 0} (c : Certificate A) (rules : List Rule) (index : ℕ) : Type 0 where
  pub within : index < length rules
  pub kept : NoneBroken c (take index rules)
  pub broken : (other : Rule) → Broken (slice_index_or rules index other) c

abbrev pub FirstBroken : {A : Type 0} → Certificate A → List Rule → Option ℕ → Type 0
FirstBroken c rules None = NoneBroken c rules
FirstBroken c rules (Some index) = Breaks c rules index

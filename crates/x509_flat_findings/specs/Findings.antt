-- Which rules a certificate breaks, as it is told.
use Rattle.std.specs.Prelude.{◌≡◌, ℕ, ◌⊎◌, List, [], ◌∷◌}
use Rattle.x509_der.specs.Calls.{IsWhole}
use Rattle.x509_der.specs.Tally.{Tally}
use Rattle.picky_asn1_x509.specs.Certificates.{certificate}
use Rattle.picky_asn1_x509.specs.declared.certificate.Certificate.{Certificate}
use Rattle.x509_fields.specs.Certificates.{CertificateIn}
use Rattle.x509_fields.specs.declared.certificate.CertificateFields.{CertificateFields}
use Rattle.x509_findings.specs.Broken.{Broken}
use Rattle.x509_findings.specs.Places.{place_of}
use Rattle.x509_flat.specs.Encodings.{Filled, Short, Untouched}
use Rattle.x509_flat.specs.Spans.{flat_span, no_span}
use Rattle.x509_flat.specs.declared.status.Status.{Status}
use Rattle.x509_flat.specs.declared.status.Status.TheVariants as answer
use Rattle.x509_rules.specs.Rules.{all_rules, part_of}
use Rattle.x509_rules.specs.declared.rule.Rule.{Rule}
use Rattle.x509_rules.specs.declared.rule.Rule.TheVariants as rule
use Rattle.x509_flat_findings.specs.declared.findings.FlatFinding.{FlatFinding}

abbrev pub rule_number : Rule → ℕ
rule_number rule.SerialNotPositive = 1
rule_number rule.SerialTooLong = 2
rule_number rule.AlgorithmsDiffer = 3
rule_number rule.SaltLengthSpelled = 4
rule_number rule.IssuerEmpty = 5
rule_number rule.IssuerSetEmpty = 6
rule_number rule.IssuerSetOrder = 7
rule_number rule.IssuerTextEmpty = 8
rule_number rule.IssuerTextLong = 9
rule_number rule.IssuerCountry = 10
rule_number rule.IssuerStringType = 11
rule_number rule.ValidityReversed = 12
rule_number rule.NotBeforeForm = 13
rule_number rule.NotAfterForm = 14
rule_number rule.SubjectEmpty = 15
rule_number rule.AuthorityUnnamed = 16
rule_number rule.SubjectSetEmpty = 17
rule_number rule.SubjectSetOrder = 18
rule_number rule.SubjectTextEmpty = 19
rule_number rule.SubjectTextLong = 20
rule_number rule.SubjectCountry = 21
rule_number rule.SubjectStringType = 22
rule_number rule.SubjectMailboxUnnamed = 23
rule_number rule.ModulusNotPositive = 24
rule_number rule.ModulusEven = 25
rule_number rule.ModulusShort = 26
rule_number rule.ExponentLow = 27
rule_number rule.ExponentEven = 28
rule_number rule.IssuerUniqueId = 29
rule_number rule.SubjectUniqueId = 30
rule_number rule.ExtensionRepeated = 31
rule_number rule.CriticalUnknown = 32
rule_number rule.AuthorityKeyCritical = 33
rule_number rule.AuthorityKeyMissing = 34
rule_number rule.AuthorityKeyPartial = 35
rule_number rule.SubjectKeyCritical = 36
rule_number rule.SubjectKeyMissing = 37
rule_number rule.KeyUsageEmpty = 38
rule_number rule.KeyUsagePadded = 39
rule_number rule.KeyUsageNotCritical = 40
rule_number rule.SigningWithoutAuthority = 41
rule_number rule.AuthorityWithoutSigning = 42
rule_number rule.PolicyMappingsNotCritical = 43
rule_number rule.SubjectNamesEmpty = 44
rule_number rule.SubjectNamesCritical = 45
rule_number rule.AlternativeNameEmpty = 46
rule_number rule.AddressLength = 47
rule_number rule.MailboxWithoutAt = 48
rule_number rule.HostName = 49
rule_number rule.UriWithoutScheme = 50
rule_number rule.IssuerNamesEmpty = 51
rule_number rule.IssuerNamesCritical = 52
rule_number rule.DirectoryAttributesCritical = 53
rule_number rule.AuthorityNotCritical = 54
rule_number rule.PathLengthIdle = 55
rule_number rule.PathLengthWithoutSigning = 56
rule_number rule.AuthorityDefaultSpelled = 57
rule_number rule.NameConstraintsNotCritical = 58
rule_number rule.NameConstraintsWithoutAuthority = 59
rule_number rule.PolicyConstraintsNotCritical = 60
rule_number rule.PurposesEmpty = 61
rule_number rule.AnyPurposeCritical = 62
rule_number rule.RevocationPointsCritical = 63
rule_number rule.AnyPolicyNotCritical = 64
rule_number rule.FreshestListCritical = 65
rule_number rule.AuthorityAccessCritical = 66
rule_number rule.SubjectAccessCritical = 67

-- all zeros
abbrev pub no_finding : FlatFinding
no_finding = record { rule = 0; at = no_span }

-- that a rule is broken, at the part that it is about
abbrev pub flat_finding : Rule → CertificateFields → FlatFinding
flat_finding r at = record { rule = rule_number r; at = flat_span (place_of (part_of r) at) }

-- of each of some rules in order whether it is broken: those that are, are told, and no other
abbrev pub AreTold : (Rule → Type 0) → (Rule → FlatFinding) → List Rule → List FlatFinding → Type 0
AreTold IsBroken finding [] told = told ≡ []
AreTold IsBroken finding (r ∷ rs) told =
    (IsBroken r × (more : List FlatFinding) × (told ≡ finding r ∷ more) × AreTold IsBroken finding rs more)
    ⊎ ((IsBroken r → ⊥) × AreTold IsBroken finding rs told)

-- those of a certificate
abbrev pub AreFindings : {A : Type 0} → Certificate A → CertificateFields → List Rule → List FlatFinding → Type 0
AreFindings c at rules told = AreTold (λ r. Broken r c) (λ r. flat_finding r at) rules told

-- the same as a record
pub record AllFindings {A : Type 0} (c : Certificate A) (at : CertificateFields) (rules : List Rule) (told : List FlatFinding) : Type 0 where
  pub are : AreFindings c at rules told

-- what a status says of writing a list to the front of a slice
pub record PutsList (list old new : List FlatFinding) (status : Status) (size : ℕ) : Type 0 where
  pub done : status ≡ answer.Done → Filled list old new size
  pub short : status ≡ answer.TooShort → Short list old new size
  pub refused : status ≡ answer.Refused → ⊥
  pub memory : status ≡ answer.OutOfMemory → ⊥
  pub unknown : status ≡ answer.UnknownKind → ⊥
  pub long : status ≡ answer.TooLong → ⊥

-- the findings of a certificate whose fields stand there, of which a fact holds
pub record WithAll {A : Type 0} (c : Certificate A) (at : CertificateFields) (fact : List FlatFinding → Type 0) : Type 0 where
  pub list : List FlatFinding
  pub all : AllFindings c at all_rules list
  pub holds : fact list

-- of writing them
pub record PutsFindings {A : Type 0} (c : Certificate A) (at : CertificateFields) (old new : List FlatFinding) (status : Status) (size : ℕ) : Type 0 where
  pub done : status ≡ answer.Done → WithAll c at (λ list. Filled list old new size)
  pub short : status ≡ answer.TooShort → WithAll c at (λ list. Short list old new size)
  pub refused : status ≡ answer.Refused → ⊥
  pub memory : status ≡ answer.OutOfMemory → Untouched old new size
  pub unknown : status ≡ answer.UnknownKind → ⊥
  pub long : status ≡ answer.TooLong → ⊥

-- a certificate that the bytes encode, of whose findings a fact holds
pub record WithFindings (A : Type 0) (bytes : List ℕ) (fact : List FlatFinding → Type 0) : Type 0 where
  pub value : Certificate A
  pub tally : Tally
  pub whole : IsWhole certificate bytes value tally
  pub places : CertificateFields
  pub stand : CertificateIn value places bytes tally
  pub list : List FlatFinding
  pub all : AllFindings value places all_rules list
  pub holds : fact list

-- what a status says of telling the findings of the certificate that the bytes encode
pub record FindingsTold (A : Type 0) (bytes : List ℕ) (old new : List FlatFinding) (status : Status) (size : ℕ) : Type 0 where
  pub done : status ≡ answer.Done → WithFindings A bytes (λ list. Filled list old new size)
  pub short : status ≡ answer.TooShort → WithFindings A bytes (λ list. Short list old new size)
  pub refused : status ≡ answer.Refused → Untouched old new size × ((v : Certificate A) (y : Tally) → (certificate {A = A}).spelled v bytes y → ⊥)
  pub memory : status ≡ answer.OutOfMemory → Untouched old new size
  pub unknown : status ≡ answer.UnknownKind → ⊥
  pub long : status ≡ answer.TooLong → ⊥

-- What rules ask of a certificate.
use Rattle.std.specs.Prelude.{◌≡◌, Bool, true, false, not, ◌&&◌, is_some, IsTrue}
use Rattle.std.specs.List.{list_any}
use Rattle.x509_der.specs.Items.{no_items}
use Rattle.picky_asn1_x509.specs.declared.certificate.Certificate.{Certificate}
use Rattle.x509_findings_memory.specs.Orders.{HasUnsorted}
use Rattle.x509_findings_memory.specs.Repeats.{Repeats}
use Rattle.x509_findings_parts.specs.Algorithms.{spells_salt}
use Rattle.x509_findings_parts.specs.Features.{some_have}
use Rattle.x509_findings_parts.specs.Keys.{HasEvenExponent, HasEvenModulus, HasLowExponent, HasLowModulus, HasShortModulus}
use Rattle.x509_findings_parts.specs.Numbers.{IsBelow, IsLonger}
use Rattle.x509_findings_parts.specs.Texts.{set_has_email, set_has_fault}
use Rattle.x509_findings_parts.specs.Times.{IsBefore, IsEarly, moment_in}
use Rattle.x509_findings_parts.specs.declared.extension.Feature.{Feature}
use Rattle.x509_findings_parts.specs.declared.extension.Feature.TheVariants as feature
use Rattle.x509_findings.specs.declared.condition.Condition.{Condition}
use Rattle.x509_findings.specs.declared.condition.Condition.TheVariants as condition
use Rattle.x509_findings.specs.declared.condition.FieldFault.{FieldFault}
use Rattle.x509_findings.specs.declared.condition.FieldFault.TheVariants as field
use Rattle.x509_findings.specs.declared.condition.OrderFault.{OrderFault}
use Rattle.x509_findings.specs.declared.condition.OrderFault.TheVariants as order

-- one of its extensions has a feature
abbrev pub has : {A : Type 0} → Certificate A → Feature → Bool
has c f = some_have f c.tbs_certificate.extensions

-- the subject is encoded as an empty list
abbrev pub is_subject_empty : {A : Type 0} → Certificate A → Bool
is_subject_empty c = no_items c.tbs_certificate.subject

-- no extension has the identifier of the key that signed, though issuer and subject are two names
abbrev pub LacksAuthorityKey : {A : Type 0} → Certificate A → Type 0
LacksAuthorityKey c = (has c feature.AuthorityKey ≡ false) × (c.tbs_certificate.issuer ≡ c.tbs_certificate.subject → ⊥)

abbrev pub BreaksField : {A : Type 0} → FieldFault → Certificate A → Type 0
-- a positive integer of at most 20 octets (RFC 5280, 4.1.2.2)
BreaksField field.LowSerial c = IsBelow c.tbs_certificate.serial_number 1
BreaksField field.LongSerial c = IsLonger c.tbs_certificate.serial_number 20
-- the same algorithm as in signatureAlgorithm (4.1.1.2, 4.1.2.3)
BreaksField field.OtherAlgorithm c = c.tbs_certificate.signature ≡ c.signature_algorithm → ⊥
-- defaults are left out (X.690, 11.5)
BreaksField field.SpelledSalt c = IsTrue (spells_salt c.tbs_certificate.signature)
-- a non-empty distinguished name, of sets of one attribute at least (4.1.2.4)
BreaksField field.NoIssuer c = IsTrue (no_items c.tbs_certificate.issuer)
BreaksField field.EmptyIssuerSet c = IsTrue (list_any no_items c.tbs_certificate.issuer)
-- the period from notBefore through notAfter; dates through the year 2049 as UTCTime (4.1.2.5)
BreaksField field.NoPeriod c = IsBefore (moment_in c.tbs_certificate.validity.not_after) (moment_in c.tbs_certificate.validity.not_before)
BreaksField field.EarlyStart c = IsEarly c.tbs_certificate.validity.not_before
BreaksField field.EarlyEnd c = IsEarly c.tbs_certificate.validity.not_after
-- an empty subject has a critical subjectAltName, and isn't that of an authority; an emailAddress is an rfc822Name too (4.1.2.6)
BreaksField field.NoSubject c = IsTrue (is_subject_empty c && not (has c feature.CriticalNames))
BreaksField field.NoAuthority c = IsTrue (is_subject_empty c && has c feature.Authority)
BreaksField field.EmptySubjectSet c = IsTrue (list_any no_items c.tbs_certificate.subject)
BreaksField field.HiddenMailbox c = IsTrue (list_any set_has_email c.tbs_certificate.subject && not (has c feature.Mailbox))
-- RSA keys (RFC 8017, 3.1)
BreaksField field.LowModulus c = HasLowModulus c.tbs_certificate.subject_public_key_info.subject_public_key
BreaksField field.EvenModulus c = HasEvenModulus c.tbs_certificate.subject_public_key_info.subject_public_key
BreaksField field.ShortModulus c = HasShortModulus c.tbs_certificate.subject_public_key_info.subject_public_key
BreaksField field.LowExponent c = HasLowExponent c.tbs_certificate.subject_public_key_info.subject_public_key
BreaksField field.EvenExponent c = HasEvenExponent c.tbs_certificate.subject_public_key_info.subject_public_key
-- no unique identifiers (RFC 5280, 4.1.2.8)
BreaksField field.IssuerId c = IsTrue (is_some c.tbs_certificate.issuer_unique_id)
BreaksField field.SubjectId c = IsTrue (is_some c.tbs_certificate.subject_unique_id)
-- a certificate that isn't self-issued has the identifier of the key that signed (4.2.1.1)
BreaksField field.NoAuthorityKey c = LacksAuthorityKey c
-- names of a subject that has some aren't critical (4.2.1.6)
BreaksField field.NeedlessNames c = IsTrue (not (is_subject_empty c) && has c feature.CriticalNames)

-- a SET OF is encoded in ascending order (X.690, 11.6); no extension stands twice (RFC 5280, 4.2)
abbrev pub BreaksOrder : {A : Type 0} → OrderFault → Certificate A → Type 0
BreaksOrder order.UnsortedIssuer c = HasUnsorted c.tbs_certificate.issuer
BreaksOrder order.UnsortedSubject c = HasUnsorted c.tbs_certificate.subject
BreaksOrder order.RepeatedExtension c = Repeats c.tbs_certificate.extensions

-- whether it takes memory to tell
abbrev pub takes_memory : Condition → Bool
takes_memory (condition.Order f) = true
takes_memory c = false

-- the condition holds of a certificate
abbrev pub Holds : {A : Type 0} → Condition → Certificate A → Type 0
Holds (condition.Field f) c = BreaksField f c
Holds (condition.Issuer f) c = IsTrue (list_any (set_has_fault f) c.tbs_certificate.issuer)
Holds (condition.Subject f) c = IsTrue (list_any (set_has_fault f) c.tbs_certificate.subject)
Holds (condition.Has f) c = IsTrue (has c f)
Holds (condition.HasWithout f other) c = IsTrue (has c f && not (has c other))
Holds (condition.Order f) c = BreaksOrder f c

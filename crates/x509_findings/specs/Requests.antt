-- What rules ask of a request (RFC 2986, 4): its subject, its key, the algorithm of its signature, and the extensions that it asks
-- for (RFC 2985, 5.4.2). What isn't there an authority adds, so that no rule is broken by it.
use Rattle.std.specs.Prelude.{Any, Bool, false, IsTrue, List}
use Rattle.std.specs.List.{list_any}
use Rattle.x509_der.specs.Items.{no_items}
use Rattle.picky_asn1_x509.specs.declared.certification_request.CertificationRequest.{CertificationRequest}
use Rattle.picky_asn1_x509_parts.specs.declared.attribute.Attribute.{Attribute}
use Rattle.picky_asn1_x509_parts.specs.declared.attribute.AttributeValues.{AttributeValues}
use Rattle.picky_asn1_x509_parts.specs.declared.attribute.AttributeValues.TheVariants as value
use Rattle.x509_findings_memory.specs.Orders.{HasUnsorted}
use Rattle.x509_findings_memory.specs.Repeats.{Repeats}
use Rattle.x509_findings_parts.specs.Algorithms.{spells_salt}
use Rattle.x509_findings_parts.specs.Features.{some_have}
use Rattle.x509_findings_parts.specs.Keys.{HasEvenExponent, HasEvenModulus, HasLowExponent, HasLowModulus, HasShortModulus}
use Rattle.x509_findings_parts.specs.Texts.{set_has_fault}
use Rattle.x509_findings_parts.specs.declared.extension.Feature.{Feature}
use Rattle.x509_findings.specs.declared.condition.Condition.{Condition}
use Rattle.x509_findings.specs.declared.condition.Condition.TheVariants as condition
use Rattle.x509_findings.specs.declared.condition.FieldFault.{FieldFault}
use Rattle.x509_findings.specs.declared.condition.FieldFault.TheVariants as field
use Rattle.x509_findings.specs.declared.condition.OrderFault.{OrderFault}
use Rattle.x509_findings.specs.declared.condition.OrderFault.TheVariants as order

-- an extension with a feature is asked for: by the values of an attribute, by an attribute, by one of some
abbrev pub value_asks : {A : Type 0} → Feature → AttributeValues A → Bool
value_asks f (value.Extensions lists) = list_any (some_have f) lists
value_asks f v = false

abbrev pub asks : {A : Type 0} → Feature → Attribute A → Bool
asks f a = value_asks f a.value

abbrev pub are_asked : {A : Type 0} → Feature → List (Attribute A) → Bool
are_asked f attributes = list_any (asks f) attributes

-- an attribute asks for a list with an extension twice
abbrev pub ValueAsksTwice : {A : Type 0} → AttributeValues A → Type 0
ValueAsksTwice (value.Extensions lists) = Any Repeats lists
ValueAsksTwice v = ⊥

abbrev pub AsksTwice : {A : Type 0} → Attribute A → Type 0
AsksTwice a = ValueAsksTwice a.value

abbrev pub BreaksRequest : {A : Type 0} → FieldFault → CertificationRequest A → Type 0
BreaksRequest field.SpelledSalt r = IsTrue (spells_salt r.signature_algorithm)
BreaksRequest field.EmptySubjectSet r = IsTrue (list_any no_items r.certification_request_info.subject)
BreaksRequest field.LowModulus r = HasLowModulus r.certification_request_info.subject_public_key_info.subject_public_key
BreaksRequest field.EvenModulus r = HasEvenModulus r.certification_request_info.subject_public_key_info.subject_public_key
BreaksRequest field.ShortModulus r = HasShortModulus r.certification_request_info.subject_public_key_info.subject_public_key
BreaksRequest field.LowExponent r = HasLowExponent r.certification_request_info.subject_public_key_info.subject_public_key
BreaksRequest field.EvenExponent r = HasEvenExponent r.certification_request_info.subject_public_key_info.subject_public_key
BreaksRequest f r = ⊥

abbrev pub BreaksRequestOrder : {A : Type 0} → OrderFault → CertificationRequest A → Type 0
BreaksRequestOrder order.UnsortedSubject r = HasUnsorted r.certification_request_info.subject
BreaksRequestOrder order.RepeatedExtension r = Any AsksTwice r.certification_request_info.attributes
BreaksRequestOrder order.UnsortedIssuer r = ⊥

-- the condition holds of a request
abbrev pub HoldsOfRequest : {A : Type 0} → Condition → CertificationRequest A → Type 0
HoldsOfRequest (condition.Field f) r = BreaksRequest f r
HoldsOfRequest (condition.Issuer f) r = ⊥
HoldsOfRequest (condition.Subject f) r = IsTrue (list_any (set_has_fault f) r.certification_request_info.subject)
HoldsOfRequest (condition.Has f) r = IsTrue (are_asked f r.certification_request_info.attributes)
HoldsOfRequest (condition.HasWithout f other) r = ⊥
HoldsOfRequest (condition.Order f) r = BreaksRequestOrder f r

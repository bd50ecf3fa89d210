-- Which rules a request breaks, as it is told.
use Rattle.std.specs.Prelude.{◌≡◌, ℕ, List}
use Rattle.x509_der.specs.Calls.{IsWhole}
use Rattle.x509_der.specs.Tally.{Tally}
use Rattle.picky_asn1_x509.specs.Requests.{request}
use Rattle.picky_asn1_x509.specs.declared.certification_request.CertificationRequest.{CertificationRequest}
use Rattle.x509_fields.specs.Requests.{RequestIn}
use Rattle.x509_fields.specs.declared.request.CertificationRequestFields.{CertificationRequestFields}
use Rattle.x509_findings.specs.Places.{place_in_request}
use Rattle.x509_findings.specs.RequestFindings.{BrokenByRequest}
use Rattle.x509_flat.specs.Encodings.{Filled, Short, Untouched}
use Rattle.x509_flat.specs.Spans.{flat_span}
use Rattle.x509_flat.specs.declared.status.Status.{Status}
use Rattle.x509_flat.specs.declared.status.Status.TheVariants as answer
use Rattle.x509_rules.specs.Rules.{all_rules, part_of}
use Rattle.x509_rules.specs.declared.rule.Rule.{Rule}
use Rattle.x509_flat_findings.specs.Findings.{AreTold, rule_number}
use Rattle.x509_flat_findings.specs.declared.findings.FlatFinding.{FlatFinding}

-- that a rule is broken, at the part that it is about
abbrev pub flat_request_finding : Rule → CertificationRequestFields → FlatFinding
flat_request_finding r at = record { rule = rule_number r; at = flat_span (place_in_request (part_of r) at) }

-- the rules that a request breaks, of some in order
pub record AllRequestFindings {A : Type 0} (v : CertificationRequest A) (at : CertificationRequestFields) (rules : List Rule) (told : List FlatFinding) : Type 0 where
  pub are : AreTold (λ r. BrokenByRequest r v) (λ r. flat_request_finding r at) rules told

-- the findings of a request whose fields stand there, of which a fact holds
pub record WithAllOfRequest {A : Type 0} (v : CertificationRequest A) (at : CertificationRequestFields) (fact : List FlatFinding → Type 0) : Type 0 where
  pub list : List FlatFinding
  pub all : AllRequestFindings v at all_rules list
  pub holds : fact list

-- of writing them
pub record PutsRequestFindings {A : Type 0} (v : CertificationRequest A) (at : CertificationRequestFields) (old new : List FlatFinding) (status : Status) (size : ℕ) : Type 0 where
  pub done : status ≡ answer.Done → WithAllOfRequest v at (λ list. Filled list old new size)
  pub short : status ≡ answer.TooShort → WithAllOfRequest v at (λ list. Short list old new size)
  pub refused : status ≡ answer.Refused → ⊥
  pub memory : status ≡ answer.OutOfMemory → Untouched old new size
  pub unknown : status ≡ answer.UnknownKind → ⊥
  pub long : status ≡ answer.TooLong → ⊥

-- a request that the bytes encode, of whose findings a fact holds
pub record WithRequestFindings (A : Type 0) (bytes : List ℕ) (fact : List FlatFinding → Type 0) : Type 0 where
  pub value : CertificationRequest A
  pub tally : Tally
  pub whole : IsWhole request bytes value tally
  pub places : CertificationRequestFields
  pub stand : RequestIn value places bytes tally
  pub list : List FlatFinding
  pub all : AllRequestFindings value places all_rules list
  pub holds : fact list

-- what a status says of telling the findings of the request that the bytes encode
pub record RequestFindingsTold (A : Type 0) (bytes : List ℕ) (old new : List FlatFinding) (status : Status) (size : ℕ) : Type 0 where
  pub done : status ≡ answer.Done → WithRequestFindings A bytes (λ list. Filled list old new size)
  pub short : status ≡ answer.TooShort → WithRequestFindings A bytes (λ list. Short list old new size)
  pub refused : status ≡ answer.Refused → Untouched old new size × ((v : CertificationRequest A) (y : Tally) → (request {A = A}).spelled v bytes y → ⊥)
  pub memory : status ≡ answer.OutOfMemory → Untouched old new size
  pub unknown : status ≡ answer.UnknownKind → ⊥
  pub long : status ≡ answer.TooLong → ⊥

-- Which rules a request breaks, and the findings of a request, one after another.
use Rattle.std.specs.Prelude.{◌≡◌, ℕ, ◌<◌, length, List, [], ◌∷◌, ◌++◌, Option, Some, None, All, slice_index_or, take}
use Rattle.picky_asn1_x509.specs.declared.certification_request.CertificationRequest.{CertificationRequest}
use Rattle.x509_fields.specs.declared.request.CertificationRequestFields.{CertificationRequestFields}
use Rattle.x509_rules.specs.Rules.{part_of}
use Rattle.x509_rules.specs.declared.rule.Rule.{Rule}
use Rattle.x509_findings.specs.Broken.{condition_of}
use Rattle.x509_findings.specs.Places.{place_in_request}
use Rattle.x509_findings.specs.Requests.{HoldsOfRequest}
use Rattle.x509_findings.specs.declared.findings.Finding.{Finding}

abbrev pub BrokenByRequest : {A : Type 0} → Rule → CertificationRequest A → Type 0
BrokenByRequest r request = HoldsOfRequest (condition_of r) request

-- none of some rules is broken
abbrev pub NoneBrokenByRequest : {A : Type 0} → CertificationRequest A → List Rule → Type 0
NoneBrokenByRequest request rules = All (λ r. BrokenByRequest r request → ⊥) rules

-- of some rules the first that is broken, with so many before it
pub record BreaksByRequest {A : Type 0} (request : CertificationRequest A) (rules : List Rule) (index : ℕ) : Type 0 where
  pub within : index < length rules
  pub kept : NoneBrokenByRequest request (take index rules)
  pub broken : (other : Rule) → BrokenByRequest (slice_index_or rules index other) request

abbrev pub FirstBrokenByRequest : {A : Type 0} → CertificationRequest A → List Rule → Option ℕ → Type 0
FirstBrokenByRequest request rules None = NoneBrokenByRequest request rules
FirstBrokenByRequest request rules (Some index) = BreaksByRequest request rules index

-- a request, the places of its fields, and the rules that are left to be asked
pub record LeftOfRequest (A : Type 0) : Type 0 where
  pub request : CertificationRequest A
  pub places : CertificationRequestFields
  pub rules : List Rule

-- with other rules
abbrev pub with_rules : {A : Type 0} → LeftOfRequest A → List Rule → LeftOfRequest A
with_rules l rules = record { request = l.request; places = l.places; rules = rules }

-- the next rule that is broken is found, at the part that it is about; those before it are kept, and those behind it are left
pub record FoundInRequest {A : Type 0} (old new : LeftOfRequest A) (finding : Finding) : Type 0 where
  pub kept : List Rule
  pub left : List Rule
  pub rules : old.rules ≡ kept ++ (finding.rule ∷ left)
  pub new_is : new ≡ with_rules old left
  pub are_kept : NoneBrokenByRequest old.request kept
  pub broken : BrokenByRequest finding.rule old.request
  pub at : finding.at ≡ place_in_request (part_of finding.rule) old.places

-- or all that are left are kept
abbrev pub TellsOfRequest : {A : Type 0} → LeftOfRequest A → LeftOfRequest A → Option Finding → Type 0
TellsOfRequest old new None = NoneBrokenByRequest old.request old.rules × (new ≡ with_rules old [])
TellsOfRequest old new (Some finding) = FoundInRequest old new finding

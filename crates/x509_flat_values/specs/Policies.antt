-- What is told of the policies under which a certificate is issued (RFC 5280, 4.2.1.4).
use Rattle.std.specs.Prelude.{◌≡◌, ℕ, ◌+◌, List, ◌++◌, length}
use Rattle.x509_der.specs.Element.{element, header}
use Rattle.x509_der.specs.Fields.{FieldAt}
use Rattle.x509_der.specs.ObjectIdentifier.{oids}
use Rattle.x509_der.specs.Tagged.{tagged}
use Rattle.x509_der.specs.Tally.{Tally}
use Rattle.x509_policies.specs.PolicyInformation.{policy_information}
use Rattle.x509_policies.specs.declared.structures.policy_information.PolicyInformation.{PolicyInformation}
use Rattle.x509_fields.specs.declared.span.Span.{Span}
use Rattle.x509_values.specs.Told.{HeldIn}
use Rattle.x509_flat.specs.declared.status.Status.{Status}
use Rattle.x509_flat_values.specs.Lists.{ListFills}

-- of a policy in the slice, which stands behind so many bytes: the content of its identifier, which stands before its qualifiers
pub record PolicyTold {A : Type 0} (string : List ℕ) (whole : Tally) (v : PolicyInformation A) (n : ℕ) (slice : List ℕ) (at : Span) : Type 0 where
  pub content : List ℕ
  pub identifiers : List ℕ
  pub qualifiers : List ℕ
  pub bytes : slice ≡ element 48 content
  pub fields : content ≡ identifiers ++ qualifiers
  pub identifier_at : FieldAt (tagged 6 oids) v.policy_identifier (n + header content) identifiers string whole
  pub identifier : HeldIn 6 identifiers (n + header content) at

-- what a status says of telling those of an extension's value
abbrev pub PoliciesFill : (A : Type 0) → List ℕ → List Span → List Span → Status → ℕ → Type 0
PoliciesFill A value old new status count = ListFills (policy_information {A = A}) PolicyTold value old new status count

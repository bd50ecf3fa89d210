-- The policies under which a certificate is issued (RFC 5280, 4.2.1.4).
use Rattle.std.specs.Prelude.{ℕ, List, Option}
use Rattle.x509_der.specs.Shape.{Shape}
use Rattle.x509_der.specs.Tagged.{tagged}
use Rattle.x509_der.specs.Join.{join}
use Rattle.x509_der.specs.Items.{items}
use Rattle.x509_der.specs.Optional.{optional}
use Rattle.x509_der.specs.Structure.{structure}
use Rattle.x509_der.specs.ObjectIdentifier.{oids}
use Rattle.x509_policies.specs.PolicyQualifierInfo.{policy_qualifier_info}
use Rattle.x509_policies.specs.declared.structures.policy_qualifier_info.PolicyQualifierInfo.{PolicyQualifierInfo}
use Rattle.x509_policies.specs.declared.structures.policy_information.PolicyInformation.{PolicyInformation}

abbrev pub Fields : Type 0 → Type 0
Fields A = List ℕ × Option (List (PolicyQualifierInfo A))

abbrev pub policy_information_parts : {A : Type 0} → PolicyInformation A → Fields A
policy_information_parts v = (v.policy_identifier, v.policy_qualifiers)

-- policyIdentifier CertPolicyId, which is an OBJECT IDENTIFIER, policyQualifiers SEQUENCE SIZE (1..MAX) OF PolicyQualifierInfo
-- OPTIONAL; an empty list is one too
abbrev pub policy_information_inner : {A : Type 0} → Shape (Fields A)
policy_information_inner =
    join (λ j. j.0) (λ j. j.1) (tagged 6 oids) (optional (tagged 48 (items policy_qualifier_info)))

abbrev pub policy_information_content : {A : Type 0} → Shape (PolicyInformation A)
policy_information_content = structure policy_information_parts policy_information_inner

-- PolicyInformation ::= SEQUENCE { policyIdentifier, policyQualifiers }
abbrev pub policy_information : {A : Type 0} → Shape (PolicyInformation A)
policy_information = tagged 48 policy_information_content

-- CertificatePolicies ::= SEQUENCE SIZE (1..MAX) OF PolicyInformation; an empty list is one too
abbrev pub certificate_policies : {A : Type 0} → Shape (List (PolicyInformation A))
certificate_policies = tagged 48 (items policy_information)

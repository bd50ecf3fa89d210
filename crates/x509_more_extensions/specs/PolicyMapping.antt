-- The policies that an authority takes for equivalent (RFC 5280, 4.2.1.5).
use Rattle.std.specs.Prelude.{ℕ, List}
use Rattle.x509_der.specs.Shape.{Shape}
use Rattle.x509_der.specs.Tagged.{tagged}
use Rattle.x509_der.specs.Join.{join}
use Rattle.x509_der.specs.Items.{items}
use Rattle.x509_der.specs.Structure.{structure}
use Rattle.x509_der.specs.ObjectIdentifier.{oids}
use Rattle.x509_more_extensions.specs.declared.structures.policy_mapping.PolicyMapping.{PolicyMapping}

abbrev pub Fields : Type 0 → Type 0
Fields A = List ℕ × List ℕ

abbrev pub policy_mapping_parts : {A : Type 0} → PolicyMapping A → Fields A
policy_mapping_parts v = (v.issuer_domain_policy, v.subject_domain_policy)

-- issuerDomainPolicy CertPolicyId, subjectDomainPolicy CertPolicyId, which are OBJECT IDENTIFIERs
abbrev pub policy_mapping_inner : Shape (List ℕ × List ℕ)
policy_mapping_inner = join (λ j. j.0) (λ j. j.1) (tagged 6 oids) (tagged 6 oids)

abbrev pub policy_mapping_content : {A : Type 0} → Shape (PolicyMapping A)
policy_mapping_content = structure policy_mapping_parts policy_mapping_inner

-- SEQUENCE { issuerDomainPolicy, subjectDomainPolicy }
abbrev pub policy_mapping : {A : Type 0} → Shape (PolicyMapping A)
policy_mapping = tagged 48 policy_mapping_content

-- PolicyMappings ::= SEQUENCE SIZE (1..MAX) OF these; an empty list is one too
abbrev pub policy_mappings : {A : Type 0} → Shape (List (PolicyMapping A))
policy_mappings = tagged 48 (items policy_mapping)

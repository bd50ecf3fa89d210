-- From which certificate on policies are demanded, and aren't mapped any more (RFC 5280, 4.2.1.11).
use Rattle.std.specs.Prelude.{ℕ, List, Option}
use Rattle.x509_der.specs.Shape.{Shape}
use Rattle.x509_der.specs.Tagged.{tagged}
use Rattle.x509_der.specs.Join.{join}
use Rattle.x509_der.specs.Optional.{optional}
use Rattle.x509_der.specs.Structure.{structure}
use Rattle.x509_der.specs.Integer.{integers}
use Rattle.x509_more_extensions.specs.declared.structures.policy_constraints.PolicyConstraints.{PolicyConstraints}

abbrev pub Fields : Type 0 → Type 0
Fields A = Option (List ℕ) × Option (List ℕ)

abbrev pub policy_constraints_parts : {A : Type 0} → PolicyConstraints A → Fields A
policy_constraints_parts v = (v.require_explicit_policy, v.inhibit_policy_mapping)

-- requireExplicitPolicy [0] SkipCerts OPTIONAL, inhibitPolicyMapping [1] SkipCerts OPTIONAL, with implicit tags;
-- SkipCerts ::= INTEGER (0..MAX), of which the range isn't asked
abbrev pub policy_constraints_inner : Shape (Option (List ℕ) × Option (List ℕ))
policy_constraints_inner = join (λ j. j.0) (λ j. j.1) (optional (tagged 128 integers)) (optional (tagged 129 integers))

abbrev pub policy_constraints_content : {A : Type 0} → Shape (PolicyConstraints A)
policy_constraints_content = structure policy_constraints_parts policy_constraints_inner

-- PolicyConstraints ::= SEQUENCE { requireExplicitPolicy, inhibitPolicyMapping }
abbrev pub policy_constraints : {A : Type 0} → Shape (PolicyConstraints A)
policy_constraints = tagged 48 policy_constraints_content

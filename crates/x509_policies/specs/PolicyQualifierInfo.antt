-- What a policy says of itself (RFC 5280, 4.2.1.4).
use Rattle.std.specs.Prelude.{ℕ, List, [], ◌∷◌}
use Rattle.x509_der.specs.Shape.{Shape}
use Rattle.x509_der.specs.Tagged.{tagged}
use Rattle.x509_der.specs.Join.{join}
use Rattle.x509_der.specs.RawElement.{raws}
use Rattle.x509_der.specs.ObjectIdentifier.{oids}
use Rattle.x509_der.specs.Structure.{structure}
use Rattle.x509_policies.specs.declared.structures.policy_qualifier_info.PolicyQualifierInfo.{PolicyQualifierInfo}

-- the arcs of the kind, and the element that is said
abbrev pub Fields : Type 0 → Type 0
Fields A = List ℕ × List ℕ

abbrev pub policy_qualifier_info_parts : {A : Type 0} → PolicyQualifierInfo A → Fields A
policy_qualifier_info_parts v = (v.policy_qualifier_id, v.qualifier)

-- policyQualifierId OBJECT IDENTIFIER, qualifier ANY DEFINED BY policyQualifierId, which is any one element
abbrev pub policy_qualifier_info_inner : Shape (List ℕ × List ℕ)
policy_qualifier_info_inner = join (λ j. j.0) (λ j. j.1) (tagged 6 oids) raws

abbrev pub policy_qualifier_info_content : {A : Type 0} → Shape (PolicyQualifierInfo A)
policy_qualifier_info_content = structure policy_qualifier_info_parts policy_qualifier_info_inner

-- PolicyQualifierInfo ::= SEQUENCE { policyQualifierId, qualifier }
abbrev pub policy_qualifier_info : {A : Type 0} → Shape (PolicyQualifierInfo A)
policy_qualifier_info = tagged 48 policy_qualifier_info_content

-- id-qt-cps and id-qt-unotice (RFC 5280, 4.2.1.4)
abbrev pub cps_arcs : List ℕ
cps_arcs = 1 ∷ 3 ∷ 6 ∷ 1 ∷ 5 ∷ 5 ∷ 7 ∷ 2 ∷ 1 ∷ []

abbrev pub user_notice_arcs : List ℕ
user_notice_arcs = 1 ∷ 3 ∷ 6 ∷ 1 ∷ 5 ∷ 5 ∷ 7 ∷ 2 ∷ 2 ∷ []

-- What is told of a check of an extension's octets, by its kind.
use Rattle.std.specs.Prelude.{◌≡◌, ℕ, List, Option, Some, None}
use Rattle.x509_distribution_points.specs.DistributionPoint.{crl_distribution_points}
use Rattle.x509_distribution_points.specs.IssuingDistributionPoint.{issuing_distribution_point}
use Rattle.x509_more_extensions.specs.AccessDescription.{authority_info_access, subject_info_access}
use Rattle.x509_more_extensions.specs.NameConstraints.{name_constraints}
use Rattle.x509_more_extensions.specs.PolicyConstraints.{policy_constraints}
use Rattle.x509_more_extensions.specs.PolicyMapping.{policy_mappings}
use Rattle.x509_more_extensions.specs.PrivateKeyUsagePeriod.{private_key_usage_period}
use Rattle.x509_policies.specs.PolicyInformation.{certificate_policies}
use Rattle.x509_qualified.specs.CertificateTemplate.{certificate_template}
use Rattle.x509_qualified.specs.DirectoryAttribute.{subject_directory_attributes}
use Rattle.x509_qualified.specs.NetscapeCertType.{netscape_cert_type}
use Rattle.x509_qualified.specs.QcStatement.{qc_statements}
use Rattle.x509_further_extensions.specs.Further.{kind_of, inhibit_any_policy, netscape_comment, ocsp_no_check, poison, signed_timestamps, template_name, tls_feature}
use Rattle.x509_further_extensions.specs.declared.further.FurtherKind.{FurtherKind}
use Rattle.x509_further_extensions.specs.declared.further.FurtherKind.TheVariants as kinds
use Rattle.x509_der.specs.ObjectIdentifier.{IsOid}
use Rattle.x509_flat.specs.Checks.{Tells, no_verdict}
use Rattle.x509_flat.specs.declared.check.Verdict.{Verdict}
use Rattle.x509_flat.specs.declared.status.Status.{Status}
use Rattle.x509_flat.specs.declared.status.Status.TheVariants as answer

-- the status and the verdict are those of one check of the octets by the grammar of a kind
abbrev pub TellsFurther : (A : Type 0) → FurtherKind → List ℕ → Status → Verdict → Type 0
TellsFurther A kinds.AuthorityInfoAccess octets status verdict = Tells (authority_info_access {A = A}) octets status verdict
TellsFurther A kinds.SubjectInfoAccess octets status verdict = Tells (subject_info_access {A = A}) octets status verdict
TellsFurther A kinds.TlsFeature octets status verdict = Tells tls_feature octets status verdict
TellsFurther A kinds.OcspNoCheck octets status verdict = Tells ocsp_no_check octets status verdict
TellsFurther A kinds.PrivateKeyUsagePeriod octets status verdict = Tells private_key_usage_period octets status verdict
TellsFurther A kinds.IssuingDistributionPoint octets status verdict = Tells (issuing_distribution_point {A = A}) octets status verdict
TellsFurther A kinds.NameConstraints octets status verdict = Tells (name_constraints {A = A}) octets status verdict
TellsFurther A kinds.CrlDistributionPoints octets status verdict = Tells (crl_distribution_points {A = A}) octets status verdict
TellsFurther A kinds.CertificatePolicies octets status verdict = Tells (certificate_policies {A = A}) octets status verdict
TellsFurther A kinds.PolicyMappings octets status verdict = Tells (policy_mappings {A = A}) octets status verdict
TellsFurther A kinds.PolicyConstraints octets status verdict = Tells (policy_constraints {A = A}) octets status verdict
TellsFurther A kinds.FreshestCrl octets status verdict = Tells (crl_distribution_points {A = A}) octets status verdict
TellsFurther A kinds.InhibitAnyPolicy octets status verdict = Tells inhibit_any_policy octets status verdict
TellsFurther A kinds.SignedTimestamps octets status verdict = Tells signed_timestamps octets status verdict
TellsFurther A kinds.Poison octets status verdict = Tells poison octets status verdict
TellsFurther A kinds.QcStatements octets status verdict = Tells (qc_statements {A = A}) octets status verdict
TellsFurther A kinds.SubjectDirectoryAttributes octets status verdict = Tells (subject_directory_attributes {A = A}) octets status verdict
TellsFurther A kinds.NetscapeCertType octets status verdict = Tells netscape_cert_type octets status verdict
TellsFurther A kinds.NetscapeComment octets status verdict = Tells netscape_comment octets status verdict
TellsFurther A kinds.TemplateName octets status verdict = Tells template_name octets status verdict
TellsFurther A kinds.CertificateTemplate octets status verdict = Tells (certificate_template {A = A}) octets status verdict

-- that of the kind, where there is one
abbrev pub TellsIf : (A : Type 0) → Option FurtherKind → List ℕ → Status → Verdict → Type 0
TellsIf A (Some kind) octets status verdict = TellsFurther A kind octets status verdict
TellsIf A None octets status verdict = (status ≡ answer.UnknownKind) × (verdict ≡ no_verdict)

-- of the kind that the object identifier with a content tells; bytes that are the content of none tell none
pub record ExtensionChecked (A : Type 0) (identifier octets : List ℕ) (status : Status) (verdict : Verdict) : Type 0 where
  pub known : (arcs : List ℕ) → IsOid arcs identifier → TellsIf A (kind_of arcs) octets status verdict
  pub bad : ((arcs : List ℕ) → IsOid arcs identifier → ⊥) → (status ≡ answer.UnknownKind) × (verdict ≡ no_verdict)

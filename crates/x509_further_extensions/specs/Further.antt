-- Extensions that are read from the octets of their values, by the object identifier.
use Rattle.std.specs.Prelude.{◌≡◌, ℕ, if◌then◌else◌, List, [], ◌∷◌, Option, Some, None, Result}
use Rattle.x509_der.specs.Items.{items}
use Rattle.x509_der.specs.Integer.{integers}
use Rattle.x509_der.specs.ObjectIdentifier.{is_arcs}
use Rattle.x509_der.specs.PrimitiveContent.{nothing, octets}
use Rattle.x509_der.specs.Shape.{Shape}
use Rattle.x509_der.specs.Tagged.{tagged}
use Rattle.x509_der.specs.Types.{Refused}
use Rattle.x509_distribution_points.specs.DistributionPoint.{crl_distribution_points}
use Rattle.x509_distribution_points.specs.IssuingDistributionPoint.{issuing_distribution_point}
use Rattle.x509_more_extensions.specs.AccessDescription.{authority_info_access, subject_info_access}
use Rattle.x509_more_extensions.specs.NameConstraints.{name_constraints}
use Rattle.x509_more_extensions.specs.PolicyConstraints.{policy_constraints}
use Rattle.x509_more_extensions.specs.PolicyMapping.{policy_mappings}
use Rattle.x509_more_extensions.specs.PrivateKeyUsagePeriod.{private_key_usage_period}
use Rattle.x509_policies.specs.PolicyInformation.{certificate_policies}
use Rattle.x509_prim.specs.CharSets.{are_ascii, are_pairs}
use Rattle.x509_prim.specs.Texts.{Passes, texts}
use Rattle.x509_qualified.specs.CertificateTemplate.{certificate_template}
use Rattle.x509_qualified.specs.DirectoryAttribute.{subject_directory_attributes}
use Rattle.x509_qualified.specs.NetscapeCertType.{netscape_cert_type}
use Rattle.x509_qualified.specs.QcStatement.{qc_statements}
use Rattle.x509_policies.specs.Explained.{ExplainedAs}
use Rattle.picky_asn1_x509.specs.Types.{ExtensionValue}
use Rattle.picky_asn1_x509.specs.Types.extension_value as value
use Rattle.x509_further_extensions.specs.declared.further.FurtherKind.{FurtherKind}
use Rattle.x509_further_extensions.specs.declared.further.FurtherKind.TheVariants as kinds
use Rattle.x509_further_extensions.specs.declared.further.Further.{Further}
use Rattle.x509_further_extensions.specs.declared.further.Further.TheVariants as further

-- id-pe-authorityInfoAccess (RFC 5280, 4.2.2.1)
abbrev pub authority_info_access_arcs : List ℕ
authority_info_access_arcs = 1 ∷ 3 ∷ 6 ∷ 1 ∷ 5 ∷ 5 ∷ 7 ∷ 1 ∷ 1 ∷ []

-- id-pe-subjectInfoAccess (RFC 5280, 4.2.2.2)
abbrev pub subject_info_access_arcs : List ℕ
subject_info_access_arcs = 1 ∷ 3 ∷ 6 ∷ 1 ∷ 5 ∷ 5 ∷ 7 ∷ 1 ∷ 11 ∷ []

-- id-pe-tlsfeature (RFC 7633, 4.1)
abbrev pub tls_feature_arcs : List ℕ
tls_feature_arcs = 1 ∷ 3 ∷ 6 ∷ 1 ∷ 5 ∷ 5 ∷ 7 ∷ 1 ∷ 24 ∷ []

-- id-pkix-ocsp-nocheck (RFC 6960, 4.2.2.2.1)
abbrev pub ocsp_no_check_arcs : List ℕ
ocsp_no_check_arcs = 1 ∷ 3 ∷ 6 ∷ 1 ∷ 5 ∷ 5 ∷ 7 ∷ 48 ∷ 1 ∷ 5 ∷ []

-- id-ce-privateKeyUsagePeriod (RFC 5280, A.2)
abbrev pub private_key_usage_period_arcs : List ℕ
private_key_usage_period_arcs = 2 ∷ 5 ∷ 29 ∷ 16 ∷ []

-- id-ce-issuingDistributionPoint (RFC 5280, 5.2.5)
abbrev pub issuing_distribution_point_arcs : List ℕ
issuing_distribution_point_arcs = 2 ∷ 5 ∷ 29 ∷ 28 ∷ []

-- id-ce-nameConstraints (RFC 5280, 4.2.1.10)
abbrev pub name_constraints_arcs : List ℕ
name_constraints_arcs = 2 ∷ 5 ∷ 29 ∷ 30 ∷ []

-- id-ce-cRLDistributionPoints (RFC 5280, 4.2.1.13)
abbrev pub crl_distribution_points_arcs : List ℕ
crl_distribution_points_arcs = 2 ∷ 5 ∷ 29 ∷ 31 ∷ []

-- id-ce-certificatePolicies (RFC 5280, 4.2.1.4)
abbrev pub certificate_policies_arcs : List ℕ
certificate_policies_arcs = 2 ∷ 5 ∷ 29 ∷ 32 ∷ []

-- id-ce-policyMappings (RFC 5280, 4.2.1.5)
abbrev pub policy_mappings_arcs : List ℕ
policy_mappings_arcs = 2 ∷ 5 ∷ 29 ∷ 33 ∷ []

-- id-ce-policyConstraints (RFC 5280, 4.2.1.11)
abbrev pub policy_constraints_arcs : List ℕ
policy_constraints_arcs = 2 ∷ 5 ∷ 29 ∷ 36 ∷ []

-- id-ce-freshestCRL (RFC 5280, 4.2.1.15)
abbrev pub freshest_crl_arcs : List ℕ
freshest_crl_arcs = 2 ∷ 5 ∷ 29 ∷ 46 ∷ []

-- id-ce-inhibitAnyPolicy (RFC 5280, 4.2.1.14)
abbrev pub inhibit_any_policy_arcs : List ℕ
inhibit_any_policy_arcs = 2 ∷ 5 ∷ 29 ∷ 54 ∷ []

-- the list of signed timestamps (RFC 6962, 3.3)
abbrev pub signed_timestamps_arcs : List ℕ
signed_timestamps_arcs = 1 ∷ 3 ∷ 6 ∷ 1 ∷ 4 ∷ 1 ∷ 11129 ∷ 2 ∷ 4 ∷ 2 ∷ []

-- the poison of certificates for logs (RFC 6962, 3.1)
abbrev pub poison_arcs : List ℕ
poison_arcs = 1 ∷ 3 ∷ 6 ∷ 1 ∷ 4 ∷ 1 ∷ 11129 ∷ 2 ∷ 4 ∷ 3 ∷ []

-- id-pe-qcStatements (RFC 3739, 3.2.6)
abbrev pub qc_statements_arcs : List ℕ
qc_statements_arcs = 1 ∷ 3 ∷ 6 ∷ 1 ∷ 5 ∷ 5 ∷ 7 ∷ 1 ∷ 3 ∷ []

-- id-ce-subjectDirectoryAttributes (RFC 5280, 4.2.1.8)
abbrev pub subject_directory_attributes_arcs : List ℕ
subject_directory_attributes_arcs = 2 ∷ 5 ∷ 29 ∷ 9 ∷ []

-- netscape-cert-type (Netscape Certificate Extensions)
abbrev pub netscape_cert_type_arcs : List ℕ
netscape_cert_type_arcs = 2 ∷ 16 ∷ 840 ∷ 1 ∷ 113730 ∷ 1 ∷ 1 ∷ []

-- netscape-comment (Netscape Certificate Extensions)
abbrev pub netscape_comment_arcs : List ℕ
netscape_comment_arcs = 2 ∷ 16 ∷ 840 ∷ 1 ∷ 113730 ∷ 1 ∷ 13 ∷ []

-- the name of a template (MS-WCCE, 2.2.2.7.7.1)
abbrev pub template_name_arcs : List ℕ
template_name_arcs = 1 ∷ 3 ∷ 6 ∷ 1 ∷ 4 ∷ 1 ∷ 311 ∷ 20 ∷ 2 ∷ []

-- a template (MS-WCCE, 2.2.2.7.7.2)
abbrev pub certificate_template_arcs : List ℕ
certificate_template_arcs = 1 ∷ 3 ∷ 6 ∷ 1 ∷ 4 ∷ 1 ∷ 311 ∷ 21 ∷ 7 ∷ []

-- Features ::= SEQUENCE OF INTEGER (RFC 7633, 4.1)
abbrev pub tls_feature : Shape (List (List ℕ))
tls_feature = tagged 48 (items (tagged 2 integers))

-- NULL (RFC 6960, 4.2.2.2.1)
abbrev pub ocsp_no_check : Shape (Unit {0})
ocsp_no_check = tagged 5 nothing

-- InhibitAnyPolicy ::= SkipCerts, which is INTEGER (0..MAX) (RFC 5280, 4.2.1.14); a negative number is one too
abbrev pub inhibit_any_policy : Shape (List ℕ)
inhibit_any_policy = tagged 2 integers

-- SignedCertificateTimestampList ::= OCTET STRING (RFC 6962, 3.3); what TLS gives the octets isn't looked into
abbrev pub signed_timestamps : Shape (List ℕ)
signed_timestamps = tagged 4 octets

-- NULL (RFC 6962, 3.1)
abbrev pub poison : Shape (Unit {0})
poison = tagged 5 nothing

-- IA5String (Netscape Certificate Extensions)
abbrev pub netscape_comment : Shape (List ℕ)
netscape_comment = tagged 22 (texts (Passes are_ascii))

-- BMPString (MS-WCCE, 2.2.2.7.7.1)
abbrev pub template_name : Shape (List ℕ)
template_name = tagged 30 (texts (Passes are_pairs))

-- the kind that the identifier tells, if it is one that is known beside those of the RFCs on certificates of the web
abbrev pub other_kind_of : List ℕ → Option FurtherKind
other_kind_of arcs =
    if is_arcs arcs qc_statements_arcs then Some kinds.QcStatements
    else if is_arcs arcs subject_directory_attributes_arcs then Some kinds.SubjectDirectoryAttributes
    else if is_arcs arcs netscape_cert_type_arcs then Some kinds.NetscapeCertType
    else if is_arcs arcs netscape_comment_arcs then Some kinds.NetscapeComment
    else if is_arcs arcs template_name_arcs then Some kinds.TemplateName
    else if is_arcs arcs certificate_template_arcs then Some kinds.CertificateTemplate
    else None

-- the kind that the identifier tells, if it is one of these
abbrev pub kind_of : List ℕ → Option FurtherKind
kind_of arcs =
    if is_arcs arcs authority_info_access_arcs then Some kinds.AuthorityInfoAccess
    else if is_arcs arcs subject_info_access_arcs then Some kinds.SubjectInfoAccess
    else if is_arcs arcs tls_feature_arcs then Some kinds.TlsFeature
    else if is_arcs arcs ocsp_no_check_arcs then Some kinds.OcspNoCheck
    else if is_arcs arcs private_key_usage_period_arcs then Some kinds.PrivateKeyUsagePeriod
    else if is_arcs arcs issuing_distribution_point_arcs then Some kinds.IssuingDistributionPoint
    else if is_arcs arcs name_constraints_arcs then Some kinds.NameConstraints
    else if is_arcs arcs crl_distribution_points_arcs then Some kinds.CrlDistributionPoints
    else if is_arcs arcs certificate_policies_arcs then Some kinds.CertificatePolicies
    else if is_arcs arcs policy_mappings_arcs then Some kinds.PolicyMappings
    else if is_arcs arcs policy_constraints_arcs then Some kinds.PolicyConstraints
    else if is_arcs arcs freshest_crl_arcs then Some kinds.FreshestCrl
    else if is_arcs arcs inhibit_any_policy_arcs then Some kinds.InhibitAnyPolicy
    else if is_arcs arcs signed_timestamps_arcs then Some kinds.SignedTimestamps
    else if is_arcs arcs poison_arcs then Some kinds.Poison
    else other_kind_of arcs

-- the kind of an extension
abbrev pub kind_in : {A : Type 0} → Further A → FurtherKind
kind_in (further.AuthorityInfoAccess v) = kinds.AuthorityInfoAccess
kind_in (further.SubjectInfoAccess v) = kinds.SubjectInfoAccess
kind_in (further.TlsFeature v) = kinds.TlsFeature
kind_in (further.OcspNoCheck v) = kinds.OcspNoCheck
kind_in (further.PrivateKeyUsagePeriod v) = kinds.PrivateKeyUsagePeriod
kind_in (further.IssuingDistributionPoint v) = kinds.IssuingDistributionPoint
kind_in (further.NameConstraints v) = kinds.NameConstraints
kind_in (further.CrlDistributionPoints v) = kinds.CrlDistributionPoints
kind_in (further.CertificatePolicies v) = kinds.CertificatePolicies
kind_in (further.PolicyMappings v) = kinds.PolicyMappings
kind_in (further.PolicyConstraints v) = kinds.PolicyConstraints
kind_in (further.FreshestCrl v) = kinds.FreshestCrl
kind_in (further.InhibitAnyPolicy v) = kinds.InhibitAnyPolicy
kind_in (further.SignedTimestamps v) = kinds.SignedTimestamps
kind_in (further.Poison v) = kinds.Poison
kind_in (further.QcStatements v) = kinds.QcStatements
kind_in (further.SubjectDirectoryAttributes v) = kinds.SubjectDirectoryAttributes
kind_in (further.NetscapeCertType v) = kinds.NetscapeCertType
kind_in (further.NetscapeComment v) = kinds.NetscapeComment
kind_in (further.TemplateName v) = kinds.TemplateName
kind_in (further.CertificateTemplate v) = kinds.CertificateTemplate

-- what a read of a kind gives: the value that the octets encode by its grammar, or why they encode none
abbrev pub IsRead : {A : Type 0} → FurtherKind → List ℕ → Result (Further A × List ℕ) Refused → Type 0
IsRead kinds.AuthorityInfoAccess string result = ExplainedAs further.AuthorityInfoAccess authority_info_access string result
IsRead kinds.SubjectInfoAccess string result = ExplainedAs further.SubjectInfoAccess subject_info_access string result
IsRead kinds.TlsFeature string result = ExplainedAs further.TlsFeature tls_feature string result
IsRead kinds.OcspNoCheck string result = ExplainedAs further.OcspNoCheck ocsp_no_check string result
IsRead kinds.PrivateKeyUsagePeriod string result = ExplainedAs further.PrivateKeyUsagePeriod private_key_usage_period string result
IsRead kinds.IssuingDistributionPoint string result = ExplainedAs further.IssuingDistributionPoint issuing_distribution_point string result
IsRead kinds.NameConstraints string result = ExplainedAs further.NameConstraints name_constraints string result
IsRead kinds.CrlDistributionPoints string result = ExplainedAs further.CrlDistributionPoints crl_distribution_points string result
IsRead kinds.CertificatePolicies string result = ExplainedAs further.CertificatePolicies certificate_policies string result
IsRead kinds.PolicyMappings string result = ExplainedAs further.PolicyMappings policy_mappings string result
IsRead kinds.PolicyConstraints string result = ExplainedAs further.PolicyConstraints policy_constraints string result
IsRead kinds.FreshestCrl string result = ExplainedAs further.FreshestCrl crl_distribution_points string result
IsRead kinds.InhibitAnyPolicy string result = ExplainedAs further.InhibitAnyPolicy inhibit_any_policy string result
IsRead kinds.SignedTimestamps string result = ExplainedAs further.SignedTimestamps signed_timestamps string result
IsRead kinds.Poison string result = ExplainedAs further.Poison poison string result
IsRead kinds.QcStatements string result = ExplainedAs further.QcStatements qc_statements string result
IsRead kinds.SubjectDirectoryAttributes string result = ExplainedAs further.SubjectDirectoryAttributes subject_directory_attributes string result
IsRead kinds.NetscapeCertType string result = ExplainedAs further.NetscapeCertType netscape_cert_type string result
IsRead kinds.NetscapeComment string result = ExplainedAs further.NetscapeComment netscape_comment string result
IsRead kinds.TemplateName string result = ExplainedAs further.TemplateName template_name string result
IsRead kinds.CertificateTemplate string result = ExplainedAs further.CertificateTemplate certificate_template string result

-- that, where the identifier tells a kind; and nothing where it tells none
abbrev pub IsViewed : {A : Type 0} → Option FurtherKind → List ℕ → Option (Result (Further A × List ℕ) Refused) → Type 0
IsViewed (Some kind) string (Some result) = IsRead kind string result
IsViewed None string None = Unit {0}
IsViewed (Some kind) string None = ⊥
IsViewed None string (Some result) = ⊥

-- the octets of an extension that the port keeps as octets
abbrev pub octets_in : {A : Type 0} → ExtensionValue A → Option (List ℕ)
octets_in (value.Generic string) = Some string
octets_in other = None

-- what is seen of an extension: that of its octets, and nothing where the port reads it itself
abbrev pub IsSeen : {A : Type 0} → Option (List ℕ) → List ℕ → Option (Result (Further A × List ℕ) Refused) → Type 0
IsSeen (Some string) arcs result = IsViewed (kind_of arcs) string result
IsSeen None arcs result = result ≡ None

-- The extensions of RFC 5280 by their identifiers (4.2.1, 4.2.2, A.1 and A.2).
use Rattle.std.specs.Prelude.{ℕ, Bool, List, [], ◌∷◌}
use Rattle.std.specs.List.{list_any}
use Rattle.x509_der.specs.ObjectIdentifier.{is_arcs}
use Rattle.x509_findings_parts.specs.declared.known.Known.{Known}
use Rattle.x509_findings_parts.specs.declared.known.Known.TheVariants as known

abbrev pub arcs_of_known : Known → List ℕ
-- id-ce-subjectDirectoryAttributes
arcs_of_known known.SubjectDirectoryAttributes = 2 ∷ 5 ∷ 29 ∷ 9 ∷ []
-- id-ce-subjectKeyIdentifier
arcs_of_known known.SubjectKeyIdentifier = 2 ∷ 5 ∷ 29 ∷ 14 ∷ []
-- id-ce-keyUsage
arcs_of_known known.KeyUsage = 2 ∷ 5 ∷ 29 ∷ 15 ∷ []
-- id-ce-subjectAltName
arcs_of_known known.SubjectAltName = 2 ∷ 5 ∷ 29 ∷ 17 ∷ []
-- id-ce-issuerAltName
arcs_of_known known.IssuerAltName = 2 ∷ 5 ∷ 29 ∷ 18 ∷ []
-- id-ce-basicConstraints
arcs_of_known known.BasicConstraints = 2 ∷ 5 ∷ 29 ∷ 19 ∷ []
-- id-ce-nameConstraints
arcs_of_known known.NameConstraints = 2 ∷ 5 ∷ 29 ∷ 30 ∷ []
-- id-ce-cRLDistributionPoints
arcs_of_known known.CrlDistributionPoints = 2 ∷ 5 ∷ 29 ∷ 31 ∷ []
-- id-ce-certificatePolicies
arcs_of_known known.CertificatePolicies = 2 ∷ 5 ∷ 29 ∷ 32 ∷ []
-- id-ce-policyMappings
arcs_of_known known.PolicyMappings = 2 ∷ 5 ∷ 29 ∷ 33 ∷ []
-- id-ce-authorityKeyIdentifier
arcs_of_known known.AuthorityKeyIdentifier = 2 ∷ 5 ∷ 29 ∷ 35 ∷ []
-- id-ce-policyConstraints
arcs_of_known known.PolicyConstraints = 2 ∷ 5 ∷ 29 ∷ 36 ∷ []
-- id-ce-extKeyUsage
arcs_of_known known.ExtKeyUsage = 2 ∷ 5 ∷ 29 ∷ 37 ∷ []
-- id-ce-freshestCRL
arcs_of_known known.FreshestCrl = 2 ∷ 5 ∷ 29 ∷ 46 ∷ []
-- id-ce-inhibitAnyPolicy
arcs_of_known known.InhibitAnyPolicy = 2 ∷ 5 ∷ 29 ∷ 54 ∷ []
-- id-pe-authorityInfoAccess
arcs_of_known known.AuthorityInfoAccess = 1 ∷ 3 ∷ 6 ∷ 1 ∷ 5 ∷ 5 ∷ 7 ∷ 1 ∷ 1 ∷ []
-- id-pe-subjectInfoAccess
arcs_of_known known.SubjectInfoAccess = 1 ∷ 3 ∷ 6 ∷ 1 ∷ 5 ∷ 5 ∷ 7 ∷ 1 ∷ 11 ∷ []

abbrev pub all_known : List Known
all_known =
    known.SubjectDirectoryAttributes ∷ known.SubjectKeyIdentifier ∷ known.KeyUsage ∷ known.SubjectAltName ∷ known.IssuerAltName
    ∷ known.BasicConstraints ∷ known.NameConstraints ∷ known.CrlDistributionPoints ∷ known.CertificatePolicies ∷ known.PolicyMappings
    ∷ known.AuthorityKeyIdentifier ∷ known.PolicyConstraints ∷ known.ExtKeyUsage ∷ known.FreshestCrl ∷ known.InhibitAnyPolicy
    ∷ known.AuthorityInfoAccess ∷ known.SubjectInfoAccess ∷ []

-- it is that of one of them
abbrev pub is_of_standard : List ℕ → Bool
is_of_standard identifier = list_any (λ k. is_arcs identifier (arcs_of_known k)) all_known

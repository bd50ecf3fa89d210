-- The findings of a certificate, one after another.
use Rattle.std.specs.Prelude.{◌≡◌, List, [], ◌∷◌, ◌++◌, Option, Some, None}
use Rattle.picky_asn1_x509.specs.declared.certificate.Certificate.{Certificate}
use Rattle.x509_fields.specs.declared.certificate.CertificateFields.{CertificateFields}
use Rattle.x509_rules.specs.Rules.{part_of}
use Rattle.x509_rules.specs.declared.rule.Rule.{Rule}
use Rattle.x509_findings.specs.Broken.{Broken, NoneBroken}
use Rattle.x509_findings.specs.Places.{place_of}
use Rattle.x509_findings.specs.declared.findings.Finding.{Finding}

-- a certificate, the places of its fields, and the rules that are left to be asked
pub record Left (A : Type 0) : Type 0 where
  pub certificate : Certificate A
  pub places : CertificateFields
  pub rules : List Rule

-- with other rules
abbrev pub with_rules : {A : Type 0} → Left A → List Rule → Left A
with_rules l rules = record { certificate = l.certificate; places = l.places; rules = rules }

-- the next rule that is broken is found, at the part that it is about; those before it are kept, and those behind it are left
pub record Found {A : Type 0} (old new : Left A) (finding : Finding) : Type 0 where
  pub kept : List Rule
  pub left : List Rule
  pub rules : old.rules ≡ kept ++ (finding.rule ∷ left)
  pub new_is : new ≡ with_rules old left
  pub are_kept : NoneBroken old.certificate kept
  pub broken : Broken finding.rule old.certificate
  pub at : finding.at ≡ place_of (part_of finding.rule) old.places

-- or all that are left are kept
abbrev pub Tells : {A : Type 0} → Left A → Left A → Option Finding → Type 0
Tells old new None = NoneBroken old.certificate old.rules × (new ≡ with_rules old [])
Tells old new (Some finding) = Found old new finding

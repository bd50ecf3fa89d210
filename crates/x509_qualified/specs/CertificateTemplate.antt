-- By which template a certificate was issued (MS-WCCE, 2.2.2.7.7.2).
use Rattle.std.specs.Prelude.{ℕ, List}
use Rattle.x509_der.specs.Shape.{Shape}
use Rattle.x509_der.specs.Tagged.{tagged}
use Rattle.x509_der.specs.Join.{join}
use Rattle.x509_der.specs.Integer.{integers}
use Rattle.x509_der.specs.Items.{items}
use Rattle.x509_der.specs.Structure.{structure}
use Rattle.x509_der.specs.ObjectIdentifier.{oids}
use Rattle.x509_qualified.specs.declared.template.CertificateTemplate.{CertificateTemplate}

-- the arcs of the template, and the numbers of its version
abbrev pub Fields : Type 0 → Type 0
Fields A = List ℕ × List (List ℕ)

abbrev pub certificate_template_parts : {A : Type 0} → CertificateTemplate A → Fields A
certificate_template_parts v = (v.template_id, v.version)

-- templateID OBJECT IDENTIFIER, templateMajorVersion INTEGER OPTIONAL, templateMinorVersion INTEGER OPTIONAL: of one number
-- alone nothing tells which it is, so that they are a list; any numbers are read, and any count of them
abbrev pub certificate_template_inner : Shape (List ℕ × List (List ℕ))
certificate_template_inner = join (λ j. j.0) (λ j. j.1) (tagged 6 oids) (items (tagged 2 integers))

abbrev pub certificate_template_content : {A : Type 0} → Shape (CertificateTemplate A)
certificate_template_content = structure certificate_template_parts certificate_template_inner

-- CertificateTemplateOID ::= SEQUENCE { templateID, templateMajorVersion, templateMinorVersion }
abbrev pub certificate_template : {A : Type 0} → Shape (CertificateTemplate A)
certificate_template = tagged 48 certificate_template_content

-- Facts about templates.
use Rattle.std.proofs.Common.{◌≡◌, ap}
use Rattle.x509_qualified.specs.declared.template.CertificateTemplate.{CertificateTemplate}
use Rattle.x509_qualified.specs.CertificateTemplate.{Fields, certificate_template_parts}

abbrev pub certificate_template_of : {A : Type 0} → Fields A → CertificateTemplate A
certificate_template_of f = record { template_id = f.0; version = f.1 }

pub certificate_template_same : {A : Type 0} (v w : CertificateTemplate A) → certificate_template_parts v ≡ certificate_template_parts w → v ≡ w
certificate_template_same v w e = ap certificate_template_of e

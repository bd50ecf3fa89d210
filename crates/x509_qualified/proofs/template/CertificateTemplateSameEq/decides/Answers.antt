use Rattle.x509_qualified.specs.CertificateTemplate.{certificate_template_parts}
use Rattle.x509_qualified.specs.facts.CertificateTemplate.{certificate_template_same}
use Rattle.x509_der.specs.facts.SameEq.{both_decide, told_decide}
use Rattle.x509_qualified.proofs.template.CertificateTemplateSameEq.decides.Goals as goal

pub returns : goal.returns
returns g c = told_decide certificate_template_parts certificate_template_same (both_decide c.decides.ensures c.decides-2.ensures)

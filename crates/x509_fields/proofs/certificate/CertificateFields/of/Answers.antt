use Rattle.x509_fields.proofs.certificate.CertificateFields.of.Goals as goal

pub returns : goal.returns
returns g c = λ y a. c.within.ensures c.args.value.now y a

use Rattle.x509_fields.proofs.private_key.PrivateKeyInfoFields.of.Goals as goal

pub returns : goal.returns
returns g c = λ y a. c.within.ensures c.args.value.now y a

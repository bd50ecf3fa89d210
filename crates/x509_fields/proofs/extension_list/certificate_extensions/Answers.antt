use Rattle.x509_fields.proofs.extension_list.certificate_extensions.Goals as goal

pub returns : goal.returns
returns g c = λ y a. c.certificate_items.ensures c.args.value.now y a

use Rattle.x509_fields.proofs.extension_list.listed_extensions.Goals as goal

pub returns : goal.returns
returns g c = λ y a. c.listed_items.ensures c.args.value.now y a

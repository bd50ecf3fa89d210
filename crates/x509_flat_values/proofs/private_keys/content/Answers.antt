use Rattle.x509_flat_values.proofs.private_keys.content.Goals as goal

pub returns : goal.returns
returns c = record { element = c.take.result; found = c.take.ensures; is = c.span.ensures }

use Rattle.picky_asn1_x509_parts.proofs.basic_constraints.BasicConstraintsField.read.Goals as goal

pub returns : goal.returns
returns g c = c.read_fields.ensures

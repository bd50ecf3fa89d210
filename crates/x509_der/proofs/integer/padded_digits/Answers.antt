use Rattle.x509_der.specs.facts.NaturalNumber.{padded_bytes}
use Rattle.x509_der.proofs.integer.padded_digits.Goals as goal

pub returns-clause-bytes : goal.returns-clause-bytes
returns-clause-bytes c = padded_bytes c.to_be_bytes.result c.args.number c.to_be_bytes.ensures

use Rattle.std.proofs.Common.{rules}
use Rattle.picky_asn1_x509_parts.proofs.basic_constraints.BasicConstraintsStructureFields.from_fields.Goals as goal

pub returns : goal.returns
returns c = search (rules)

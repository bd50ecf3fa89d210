use Rattle.std.proofs.Common.{rules}
use Rattle.picky_asn1_x509_parts.proofs.extension.written.Goals as goal
use Rattle.picky_asn1_x509_parts.proofs.extension.written.Goals.{then-value, else-value}

pub returns : goal.returns
returns g c = elim c.if-value.branch [ then-value w ↦ search (rules) | else-value w ↦ search (rules) ]

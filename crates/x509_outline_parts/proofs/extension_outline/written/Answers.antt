use Rattle.std.proofs.Common.{rules}
use Rattle.x509_outline_parts.proofs.extension_outline.written.Goals as goal
use Rattle.x509_outline_parts.proofs.extension_outline.written.Goals.{then-value, else-value}

pub returns : goal.returns
returns g c = elim c.if-value.branch [ then-value w ↦ search (rules) | else-value w ↦ search (rules) ]

use Rattle.x509_outline_laws.proofs.Parts.{read_by_parts}
use Rattle.x509_outline_laws.proofs.laws.outline_is_read_by_parts.Goals as goal

pub returns : goal.returns
returns g c = read_by_parts

use Rattle.std.proofs.Common.{rules}
use Rattle.x509_der_parts.proofs.reader.Reader.mark.Goals as goal

pub returns : goal.returns
returns g c = search (rules)

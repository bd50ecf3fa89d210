use Rattle.std.proofs.Common.{rules}
use Rattle.x509_der_parts.proofs.reader.Reader.element.Goals as goal

pub returns-in-Ok-clause-headers : goal.returns-in-Ok-clause-headers
returns-in-Ok-clause-headers g c = search (rules)

pub returns-in-Err-clause-headers : goal.returns-in-Err-clause-headers
returns-in-Err-clause-headers g c = search (rules)

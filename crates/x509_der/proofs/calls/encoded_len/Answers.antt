use Rattle.std.proofs.Common.{rules}
use Rattle.x509_der.proofs.calls.encoded_len.Goals as goal

pub returns : goal.returns
returns g c = search (rules)

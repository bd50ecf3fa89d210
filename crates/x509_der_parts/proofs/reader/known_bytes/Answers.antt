use Rattle.std.proofs.Common.{arith}
use Rattle.x509_der_parts.proofs.reader.known_bytes.Goals as goal

pub returns : goal.returns
returns c = λ k. omega (arith, c.type_inv.bytes k)

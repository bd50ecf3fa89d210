use Rattle.std.proofs.Common.{arith}
use Rattle.x509_timestamps.specs.facts.Timestamps.{is_exact}
use Rattle.x509_timestamps.proofs.timestamp.read_timestamp.Goals as goal

pub returns : goal.returns
returns c = is_exact c.args.bytes.now c.exact.result (λ i. omega (arith, c.type_inv.bytes i)) c.exact.ensures

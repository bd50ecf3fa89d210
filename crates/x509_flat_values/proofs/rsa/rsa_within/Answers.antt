use Rattle.x509_flat_values.proofs.KeyWalks.{rsa_told}
use Rattle.x509_flat_values.proofs.rsa.rsa_within.Goals as goal

pub returns : goal.returns
returns g c = λ k slice y covers s.
    rsa_told c.args.bytes.now c.args.span k slice y c.over-key.result c.take.new.self c.take-2.new.self c.take-3.new.self c.take.result c.take-2.result c.take-3.result c.bytes.result.now _ covers s c.over-key.ensures c.take.ensures c.take-2.ensures c.take-3.ensures c.span.ensures c.span-2.ensures c.bytes.ensures c.bit_length.ensures

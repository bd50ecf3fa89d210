use Rattle.std.proofs.Common.{arith}
use Rattle.x509_pem.proofs.Text.{decoded_rest}
use Rattle.x509_pem.proofs.rest.decode_rest.Goals as goal

pub returns-clause-ok : goal.returns-clause-ok
returns-clause-ok g c =
    decoded_rest c.decode_vec.result c.args.text.now c.args.bytes.now.items c.decode_vec.new.buffer.items _ (omega arith)
    (λ i. let f = c.type_inv.text i in omega arith) c.decode_vec.ensures.ok c.decode_vec.ensures.front c.decode_vec.ensures.bytes

use Rattle.std.proofs.Common.{arith}
use Rattle.x509_pem.proofs.FullLine.{groups_more}
use Rattle.x509_pem.proofs.full_line.put_group.Goals as goal

pub returns : goal.returns
returns c = λ yes before.
    groups_more c.args.line.now c.args.bytes.now c.args.group _ _ _ (omega arith) (omega arith) c.requires before
    (omega arith) (omega arith) (omega arith) (c.group_of-sum.ensures (omega arith))

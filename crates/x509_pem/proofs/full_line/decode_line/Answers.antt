use Rattle.std.proofs.Common.{◌*◌, refl, arith}
use Rattle.x509_pem.proofs.FullLine.{groups_none, line_is}
use Rattle.x509_pem.proofs.full_line.decode_line.Goals as goal

pub fours-init : goal.fours-init
fours-init c = (refl, groups_none c.args.line.now)

pub returns : goal.returns
returns c =
    let past = c.fours-test.false in
    let end = c.fours.auto.four-end in
    line_is c.args.line.now c.fours.bytes (4 * c.fours.four) (omega arith) (omega arith) c.fours.invariant.0 c.fours.invariant.1

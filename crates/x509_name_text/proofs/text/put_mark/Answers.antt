use Rattle.std.proofs.Common.{arith}
use Rattle.x509_name_text.proofs.Names.{put_back_to}
use Rattle.x509_name_text.proofs.text.put_mark.Goals as goal

pub returns-clause-mark : goal.returns-clause-mark
returns-clause-mark c = λ front back parts here room.
    let later = rw c.if-is_first.false at room in
    rw c.if-is_first.false (put_back_to _ front back _ _ _ c.args.at _ parts here (omega (arith, c.saturating_sub-mark.ensures, later)) (omega (arith, c.ranges.at.fits)) c.put.ensures)

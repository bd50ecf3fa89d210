use Rattle.std.proofs.Common.{◌≡◌, ◌+◌, ◌++◌, arith, length, length-append, ap}
use Rattle.x509_name_text.specs.Texts.{lead, set_text}
use Rattle.x509_name_text.proofs.Names.{put_back_to}
use Rattle.x509_name_text.proofs.text.put_before.Goals as goal

pub returns-clause-set : goal.returns-clause-set
returns-clause-set c = λ shown attributes tells are front back parts here room.
    let mark = lead 44 c.args.is_first in
    let text = set_text shown attributes in
    let marked = c.put_mark-mark.ensures.mark front back parts here (omega (arith, room)) in
    let size = c.set_len.ensures shown attributes tells are in
    let all : length marked.kept + (length mark + length back) ≡ length front + length back =
    omega (arith, ap length marked.whole, length-append marked.kept (mark ++ back), length-append mark back, c.put_mark-mark.ensures.same, ap length parts, length-append front back)
    in
    let start : c.saturating_sub-start.result + length text ≡ c.put_mark-mark.result = omega (arith, c.saturating_sub-start.ensures, size, marked.size, all, here, room, c.ranges.at.fits) in
    put_back_to text marked.kept (mark ++ back) _ _ _ c.put_mark-mark.result _ marked.whole marked.size start (omega (arith, marked.size, all, here, c.ranges.at.fits)) (c.put_set.ensures shown attributes tells are)

use Rattle.std.proofs.Common.{arith}
use Rattle.x509_report_parts.proofs.Lasts.{found_more, other_more, found_last}
use Rattle.x509_report_parts.proofs.cursor.Cursor.last.Goals as goal
use Rattle.x509_report_parts.proofs.cursor.Cursor.last.Goals.{then-element-tag, else-element-tag}

pub loop-preserved : goal.loop-preserved
loop-preserved c =
    let start = c.args.self.now in
    let s = c.loop.invariant in
    elim c.if-element-tag.branch [
      | then-element-tag w ↦ rw w.found-is (found_more start c.loop.cursor c.args.tag c.loop.found c.loop.counter c.in-Some.element c.take.new.self s c.in-Some.ensures w.if-element-tag.true)
      | else-element-tag w ↦ rw w.found-is (other_more start c.loop.cursor c.args.tag c.loop.found c.loop.counter c.in-Some.element c.take.new.self s c.in-Some.ensures w.if-element-tag.false)
    ]

pub returns-after-loop : goal.returns-after-loop
returns-after-loop c =
    found_last c.args.self.now c.loop.cursor c.args.tag c.loop.found c.loop.counter c.loop.invariant (omega arith)

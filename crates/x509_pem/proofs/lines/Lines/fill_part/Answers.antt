use Rattle.x509_pem.proofs.Filled.{part_taken}
use Rattle.x509_pem.proofs.lines.Lines.fill_part.Goals as goal

pub returns-clause-part : goal.returns-clause-part
returns-clause-part g c =
    let between = c.fill_buf.follows.lender-at-none in
    let holds = c.fill_buf.follows.holds-at-none in
    part_taken c.args.self.now.limit (g.R.Read.remaining c.args.self.now.input) (g.R.Read.remaining between)
    (g.R.Read.remaining c.consume.new.self) (g.R.BufRead.consumable_len between) c.in-Ok.chunk.now c.line_part-len.result.0
    (record { measure = c.of-measure.result; is_done = c.line_part-len.result.1 }) c.args.self.now.lack c.hold-self.result
    c.args.self.now.held.items c.hold-self.new.held.items c.line_part-len.ensures.bound c.line_part-len.ensures.some
    c.line_part-len.ensures.part c.of-measure.ensures c.in-Ok.ensures.front c.in-Ok.ensures.end holds.0 (rw c.in-Ok.is at holds.1)
    c.consume.ensures.bytes c.hold-self.ensures

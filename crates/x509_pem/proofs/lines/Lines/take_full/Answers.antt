use Rattle.std.specs.Prelude.{◌==◌, slice_index, refl}
use Rattle.x509_pem.specs.Block.{state_of}
use Rattle.x509_pem.proofs.Skip.{front_taken}
use Rattle.x509_pem.proofs.lines.Lines.take_full.Goals as goal

pub returns-then-is_taken-clause-taken : goal.returns-then-is_taken-clause-taken
returns-then-is_taken-clause-taken g c =
    let between = c.fill_buf.follows.lender-at-none in
    let holds = c.fill_buf.follows.holds-at-none in
    front_taken (g.R.Read.remaining c.args.self.now.input) (g.R.Read.remaining between) (g.R.Read.remaining c.consume.new.self)
    (g.R.BufRead.consumable_len between) c.in-Ok.chunk.now (state_of c.args.block.now) (state_of c.add_front-is_taken.new.self)
    c.args.self.now.count c.saturating_add-self.result c.args.self.now.returned (slice_index c.in-Ok.chunk.now 64 == 13)
    c.in-Ok.ensures.front c.in-Ok.ensures.end holds.0 (rw c.in-Ok.is at holds.1) c.consume.ensures.bytes c.add_front-is_taken.result c.if-is_taken.true
    c.add_front-is_taken.ensures.decodes c.saturating_add-self.ensures refl

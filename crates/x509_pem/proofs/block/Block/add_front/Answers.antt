use Rattle.std.proofs.Common.{arith, sym, ◌∙◌}
use Rattle.x509_pem.specs.Block.{state_of}
use Rattle.x509_pem.proofs.Skip.{front_decodes}
use Rattle.x509_pem.proofs.block.Block.add_front.Goals as goal

pub returns-in-Some-clause-decodes : goal.returns-in-Some-clause-decodes
returns-in-Some-clause-decodes g c =
    let long = c.if-bytes-le64.false in
    front_decodes c.add_full.result c.args.bytes.now c.in-Some.line.now (state_of c.args.self.now) (state_of c.add_full.new.self)
    (omega arith) (sym c.is_line_end.ensures ∙ c.if-not-is_line_end.false) c.in-Some.ensures.cases.same c.add_full.ensures.decodes

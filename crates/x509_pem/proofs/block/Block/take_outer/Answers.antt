use Rattle.x509_pem.specs.Block.{state_of}
use Rattle.x509_pem.proofs.Taken.{begun}
use Rattle.x509_pem.proofs.block.Block.take_outer.Goals as goal

pub returns-in-Ok-clause-goes : goal.returns-in-Ok-clause-goes
returns-in-Ok-clause-goes g c =
    begun c.args.self.now.is_open c.args.number c.in-Begin.label.now c.args.line.now (state_of c.args.self.now)
    (state_of c.begin.new.self) c.requires c.in-Begin.ensures c.in-Ok.ensures.opens

use Rattle.x509_pem.specs.Block.{state_of}
use Rattle.x509_pem.proofs.Taken.{begun_inside}
use Rattle.x509_pem.proofs.block.Block.take_inner.Goals as goal

pub returns-in-Ok-begin-clause-goes : goal.returns-in-Ok-begin-clause-goes
returns-in-Ok-begin-clause-goes g c =
    begun_inside c.args.self.now.limit c.args.number c.in-Begin.label.now c.args.line.now (state_of c.args.self.now)
    (state_of c.begin.new.self) c.requires c.in-Begin.ensures c.in-Ok-begin.ensures.opens

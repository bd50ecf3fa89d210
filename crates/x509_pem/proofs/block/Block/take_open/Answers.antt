use Rattle.x509_pem.specs.Block.{state_of}
use Rattle.x509_pem.proofs.Skip.{full_goes}
use Rattle.x509_pem.proofs.Taken.{inner_goes}
use Rattle.x509_pem.proofs.block.Block.take_open.Goals as goal

pub returns-then-add_if_full-clause-goes : goal.returns-then-add_if_full-clause-goes
returns-then-add_if_full-clause-goes g c =
    full_goes c.add_if_full.result c.args.self.now.is_open c.args.number c.args.line.now (state_of c.args.self.now)
    (state_of c.add_if_full.new.self) c.if-add_if_full.true c.requires c.add_if_full.ensures.decodes

pub returns-clause-goes : goal.returns-clause-goes
returns-clause-goes g c =
    inner_goes c.args.self.now.limit c.add_if_full.new.self.limit c.args.number c.args.line.now (state_of c.args.self.now)
    (state_of c.add_if_full.new.self) (state_of c.take_inner.new.self) c.add_if_full.result c.take_inner.result
    c.if-add_if_full.false c.add_if_full.ensures.decodes c.add_if_full.ensures.limit c.take_inner.ensures.goes

use Rattle.x509_pem.specs.Reader.{place_of}
use Rattle.x509_pem.proofs.Found.{next_block_if_walked}
use Rattle.x509_pem.proofs.reader.PemReader.next_block.Goals as goal

pub returns-clause-found : goal.returns-clause-found
returns-clause-found g c = λ shut.
    next_block_if_walked c.args.self.now.block.limit c.args.self.now.lines.limit (g.R.Read.remaining c.args.self.now.lines.input)
    (place_of c.args.self.now) (g.R.Read.remaining c.walk.new.self.lines.input) (place_of c.walk.new.self) c.walk.result shut
    c.walk.ensures

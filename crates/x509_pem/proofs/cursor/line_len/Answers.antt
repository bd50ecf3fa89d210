use Rattle.x509_pem.proofs.TextLines.{first_part}
use Rattle.x509_pem.proofs.cursor.line_len.Goals as goal

pub returns-clause-line : goal.returns-clause-line
returns-clause-line c =
    (first_part c.args.chunk.now c.line_part.result.0 c.line_part.result.1 c.line_part.ensures.bound c.line_part.ensures.some
    c.line_part.ensures.all c.line_part.ensures.part).0

pub returns-clause-rest : goal.returns-clause-rest
returns-clause-rest c =
    (first_part c.args.chunk.now c.line_part.result.0 c.line_part.result.1 c.line_part.ensures.bound c.line_part.ensures.some
    c.line_part.ensures.all c.line_part.ensures.part).1

use Rattle.std.proofs.Common.{codes}
use Rattle.x509_pem.proofs.TwoEnds.{joined_ends}
use Rattle.x509_pem.proofs.boundary.label_behind.Goals as goal

pub returns-in-Some : goal.returns-in-Some
returns-in-Some c =
    joined_ends c.args.front.now c.in-Some.rest.now (codes "-----") c.args.line.now c.in-Some.ensures c.before_hyphens.result
    c.before_hyphens.ensures

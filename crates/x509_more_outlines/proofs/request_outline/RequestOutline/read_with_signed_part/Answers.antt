use Rattle.x509_der.specs.Calls.{NoWhole}
use Rattle.x509_more_outlines.specs.Requests.{request}
use Rattle.x509_outline.specs.facts.Refusals.{refused_with}
use Rattle.x509_more_outlines.proofs.request_outline.RequestOutline.read_with_signed_part.Goals as goal

pub returns-in_err-read-clause-err : goal.returns-in_err-read-clause-err
returns-in_err-read-clause-err g c = refused_with (NoWhole (request {A = g.row.A.Denot}) c.args.bytes.now) c.from_residual.result _ c.from_residual.ensures.1 c.in_err-read.ensures.err

pub returns-clause-ok : goal.returns-clause-ok
returns-clause-ok g c = c.in_ok-read.ensures.ok

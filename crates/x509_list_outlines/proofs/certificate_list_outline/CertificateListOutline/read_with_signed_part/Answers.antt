use Rattle.x509_der.specs.Calls.{NoWhole}
use Rattle.x509_list_outlines.specs.CertificateLists.{certificate_list}
use Rattle.x509_outline.specs.facts.Refusals.{refused_with}
use Rattle.x509_list_outlines.proofs.certificate_list_outline.CertificateListOutline.read_with_signed_part.Goals as goal

pub returns-in_err-read-clause-err : goal.returns-in_err-read-clause-err
returns-in_err-read-clause-err g c = refused_with (NoWhole (certificate_list {A = g.row.A.Denot}) c.args.bytes.now) c.from_residual.result _ c.from_residual.ensures.1 c.in_err-read.ensures.err

pub returns-clause-ok : goal.returns-clause-ok
returns-clause-ok g c = c.in_ok-read.ensures.ok

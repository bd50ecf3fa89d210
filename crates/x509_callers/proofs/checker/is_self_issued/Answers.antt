use Rattle.x509_callers.proofs.checker.is_self_issued.Goals as goal

pub returns : goal.returns
returns g c = rw c.eq.ensures (c.equality_is_sameness.ensures c.args.certificate.now.tbs_certificate.issuer c.args.certificate.now.tbs_certificate.subject)

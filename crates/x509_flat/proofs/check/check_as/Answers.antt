use Rattle.x509_flat.proofs.Told.{accepted, refused}
use Rattle.x509_flat.proofs.check.check_as.Goals as goal

pub returns-in-Ok-clause-told : goal.returns-in-Ok-clause-told
returns-in-Ok-clause-told g c = rw c.array.ensures (accepted g.T.Field.shape c.args.bytes.now c.in-Ok.deviations c.check_metered-outcome.result.1 c.check_metered-outcome.result.0 c.in-Ok.is c.check_metered-outcome.ensures.metered)

pub returns-in-Err-clause-told : goal.returns-in-Err-clause-told
returns-in-Err-clause-told g c = refused g.T.Field.shape c.args.bytes.now c.in-Err.refused c.check_metered-outcome.result.1 c.check_metered-outcome.result.0 _ _ c.in-Err.is c.check_metered-outcome.ensures.metered c.refused_by.ensures.status c.refused_by.ensures.verdict

use Rattle.std.proofs.Common.{refl}
use Rattle.x509_flat.proofs.Told.{accepted, refused}
use Rattle.x509_flat_values.proofs.further.check_as.Goals as goal

pub returns-in-Ok : goal.returns-in-Ok
returns-in-Ok g c = rw c.array.ensures (accepted g.T.Field.shape c.args.octets.now c.in-Ok.deviations c.check_metered-outcome.result.1 c.check_metered-outcome.result.0 c.in-Ok.is c.check_metered-outcome.ensures.metered)

pub returns-in-Err : goal.returns-in-Err
returns-in-Err g c = refused g.T.Field.shape c.args.octets.now c.in-Err.refused c.check_metered-outcome.result.1 c.check_metered-outcome.result.0 _ _ c.in-Err.is c.check_metered-outcome.ensures.metered c.status_of.ensures (rw c.number.ensures refl)

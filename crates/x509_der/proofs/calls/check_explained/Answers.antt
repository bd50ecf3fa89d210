use Rattle.x509_der_parts.specs.reads.PassingWhole.{explained_check}
use Rattle.x509_der.proofs.calls.check_explained.Goals as goal

pub returns : goal.returns
returns g c = explained_check g.T.Field.shape c.args.bytes.now c.check_metered-outcome.result.0 c.check_metered-outcome.result.1 c.check_metered-outcome.ensures.metered

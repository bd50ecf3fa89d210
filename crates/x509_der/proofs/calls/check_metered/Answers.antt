use Rattle.x509_der_parts.specs.reads.PassingWhole.{metered_check, not_metered}
use Rattle.x509_der.proofs.calls.check_metered.Goals as goal

pub returns-in-Ok-clause-metered : goal.returns-in-Ok-clause-metered
returns-in-Ok-clause-metered g c = metered_check g.T.Field.shape (g.T.Field.lawful g.met.T.FromDer.stands_alone.0) c.whole_reader-reader.result c.pass_all-outcome.new.reader c.args.bytes.now c.deviations-deviations.result c.headers-headers.result c.whole_reader-reader.ensures.rest c.whole_reader-reader.ensures.headers c.whole_reader-reader.ensures.counts c.deviations-deviations.ensures c.headers-headers.ensures c.in-Ok.ensures

pub returns-clause-metered : goal.returns-clause-metered
returns-clause-metered g c = not_metered g.T.Field.shape c.whole_reader-reader.result c.pass_all-outcome.new.reader c.args.bytes.now c.in-Err.error c.spot-at.result.start c.headers-headers.result c.whole_reader-reader.ensures.rest c.whole_reader-reader.ensures.places c.whole_reader-reader.ensures.at c.spot-at.ensures.start c.whole_reader-reader.ensures.headers c.headers-headers.ensures c.in-Err.ensures

use Rattle.x509_der_parts.specs.reads.WholeInput.{counted_whole, metered_whole}
use Rattle.x509_der.proofs.calls.read_metered.Goals as goal

pub returns-in-Ok-clause-read : goal.returns-in-Ok-clause-read
returns-in-Ok-clause-read g c = counted_whole g.T.Field.shape c.whole_reader-reader.result c.read_all-outcome.new.reader c.args.bytes.now c.deviations-deviations.result c.in-Ok.value c.whole_reader-reader.ensures.rest c.whole_reader-reader.ensures.counts c.deviations-deviations.ensures c.in-Ok.ensures

pub returns-in-Ok-clause-metered : goal.returns-in-Ok-clause-metered
returns-in-Ok-clause-metered g c = metered_whole g.T.Field.shape (g.T.Field.lawful g.met.T.FromDer.stands_alone.0) c.whole_reader-reader.result c.read_all-outcome.new.reader c.args.bytes.now c.deviations-deviations.result c.headers-headers.result c.in-Ok.value c.whole_reader-reader.ensures.rest c.whole_reader-reader.ensures.headers c.whole_reader-reader.ensures.counts c.deviations-deviations.ensures c.headers-headers.ensures c.in-Ok.ensures

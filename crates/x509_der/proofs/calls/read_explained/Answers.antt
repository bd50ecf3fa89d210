use Rattle.x509_der_parts.specs.reads.WholeInput.{counted_whole}
use Rattle.x509_der.proofs.calls.read_explained.Goals as goal

pub returns-in-Ok-clause-read : goal.returns-in-Ok-clause-read
returns-in-Ok-clause-read g c = counted_whole g.T.Field.shape c.whole_reader-reader.result c.read_all.new.reader c.args.bytes.now c.deviations.result c.in-Ok.value c.whole_reader-reader.ensures.rest c.whole_reader-reader.ensures.counts c.deviations.ensures c.in-Ok.ensures

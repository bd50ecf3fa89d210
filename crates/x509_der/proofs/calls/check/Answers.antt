use Rattle.x509_der_parts.specs.reads.PassingWhole.{checked_whole}
use Rattle.x509_der.proofs.calls.check.Goals as goal

pub returns-in-Ok : goal.returns-in-Ok
returns-in-Ok g c = checked_whole g.T.Field.shape c.whole_reader-reader.result c.pass_all.new.reader c.args.bytes.now c.deviations.result c.whole_reader-reader.ensures.rest c.whole_reader-reader.ensures.counts c.deviations.ensures c.in-Ok.ensures

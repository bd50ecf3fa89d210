use Rattle.std.proofs.Common.{sym}
use Rattle.x509_der_parts.specs.reads.PassingWhole.{places_whole}
use Rattle.x509_der.proofs.calls.check_located.Goals as goal

pub returns-clause-ok : goal.returns-clause-ok
returns-clause-ok g c = places_whole g.T.Field.shape (g.T.Field.lawful g.met.T.FromDer.stands_alone.0) c.locating_reader-reader.result c.pass_all.new.reader c.args.bytes.now c.in-Some.places.items c.locating_reader-reader.ensures.rest c.locating_reader-reader.ensures.at c.locating_reader-reader.ensures.places (sym c.in-Some.ensures) c.in_ok-pass_all.ensures

use Rattle.std.proofs.Common.{refl}
use Rattle.x509_der_parts.specs.reads.PrimitiveContent.{raw_accepts}
use Rattle.x509_der.proofs.raw.borrowed_element.Goals as goal

pub returns-clause-ok : goal.returns-clause-ok
returns-clause-ok g c = raw_accepts c.args.reader.now c.whole_element.new.self c.in_ok-bytes.bytes.now c.in_ok-bytes.bytes.now c.requires c.known_bytes.ensures c.in_ok-bytes.ensures.takes refl c.in_ok-bytes.ensures.headers c.in_ok-bytes.ensures.counts c.in_ok-bytes.ensures.at c.in_ok-bytes.ensures.places

use Rattle.x509_der.specs.facts.ShortContent.{Short}
use Rattle.x509_der.proofs.oid.content.check_few.Given as goal

abbrev pub invariant-loop-byte : goal.invariant-loop-byte
invariant-loop-byte l = Short l.bytes l.byte-index l.is_fresh

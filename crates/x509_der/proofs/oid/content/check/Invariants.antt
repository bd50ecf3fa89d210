use Rattle.std.specs.Prelude.{◌==◌}
use Rattle.x509_der.specs.facts.OidContent.{Checking}
use Rattle.x509_der.proofs.oid.content.check.Given as goal

-- where nothing was read of a number, none is under way
abbrev pub invariant-loop-byte : goal.invariant-loop-byte
invariant-loop-byte l = Checking l.bytes l.byte-index l.number (l.number == 0)

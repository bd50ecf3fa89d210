use Rattle.std.proofs.Common.{[], eqb}
use Rattle.x509_der.specs.facts.ObjectIdentifier.{Numbering}
use Rattle.x509_der.proofs.oid.arcs.split_number.Given as goal

abbrev pub invariant-loop-index : goal.invariant-loop-index
invariant-loop-index l = Numbering l.bytes [] l.index l.number (eqb l.index 0)

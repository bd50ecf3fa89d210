use Rattle.std.proofs.Common.{length}
use Rattle.x509_fields.specs.facts.Steps.{Gone}
use Rattle.x509_fields.proofs.walk.Walk.count.Given as goal

abbrev pub invariant-elements : goal.invariant-elements
invariant-elements l = Gone l.self l.walk l.count

abbrev pub decreases-elements : goal.decreases-elements
decreases-elements l = length l.walk.rest

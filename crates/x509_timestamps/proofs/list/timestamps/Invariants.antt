use Rattle.std.proofs.Common.{length}
use Rattle.std.specs.Prelude.{map}
use Rattle.x509_timestamps.specs.facts.Lists.{SoFar}
use Rattle.x509_timestamps.proofs.list.timestamps.Given as goal

abbrev pub invariant-items : goal.invariant-items
invariant-items g l = SoFar l.initial.rest (map (λ s. s.now) l.items.items) l.rest

abbrev pub decreases-items : goal.decreases-items
decreases-items g l = length l.rest

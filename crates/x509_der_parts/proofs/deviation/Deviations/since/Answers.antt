use Rattle.x509_der_parts.specs.facts.Deviations.{part_counts}
use Rattle.x509_der_parts.proofs.deviation.Deviations.since.Goals as goal

pub invariant_of-result : goal.invariant_of-result
invariant_of-result c = part_counts c.differences-counts.result c.earlier.inside.counts c.self.inside.counts c.differences-counts.ensures.ten c.self.invariant c.differences-counts.ensures.each

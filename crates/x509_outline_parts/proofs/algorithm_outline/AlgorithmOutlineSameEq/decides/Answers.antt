use Rattle.x509_der.specs.facts.SameEq.{both_decide, told_decide}
use Rattle.x509_outline_parts.specs.Algorithms.{algorithm_parts}
use Rattle.x509_outline_parts.specs.facts.Algorithms.{algorithm_same}
use Rattle.x509_outline_parts.proofs.algorithm_outline.AlgorithmOutlineSameEq.decides.Goals as goal

pub returns : goal.returns
returns g c = told_decide algorithm_parts algorithm_same (both_decide c.decides.ensures c.decides-2.ensures)

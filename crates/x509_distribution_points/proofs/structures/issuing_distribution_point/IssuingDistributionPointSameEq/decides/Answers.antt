-- That == of IssuingDistributionPoint tells the same, written by tools/structures.py from declarations.asn1.
use Rattle.x509_distribution_points.specs.IssuingDistributionPoint.{issuing_distribution_point_parts}
use Rattle.x509_distribution_points.specs.facts.structures.IssuingDistributionPoint.{issuing_distribution_point_same}
use Rattle.x509_der.specs.facts.SameEq.{both_decide, told_decide}
use Rattle.x509_distribution_points.proofs.structures.issuing_distribution_point.IssuingDistributionPointSameEq.decides.Goals as goal

pub returns : goal.returns
returns g c = told_decide issuing_distribution_point_parts issuing_distribution_point_same (both_decide c.decides.ensures (both_decide c.decides-2.ensures (both_decide c.decides-2.ensures (both_decide c.decides-3.ensures (both_decide c.decides-2.ensures c.decides-2.ensures)))))

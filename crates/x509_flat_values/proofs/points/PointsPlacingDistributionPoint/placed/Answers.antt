use Rattle.x509_flat_values.proofs.PointWalks.{point_told}
use Rattle.x509_flat_values.proofs.points.PointsPlacingDistributionPoint.placed.Goals as goal

pub returns : goal.returns
returns g c = λ v n slice string whole h bytes place.
    point_told string whole v n slice c.args.item c.content_if-name.new.fields c.content_if-reasons.new.fields c.content_if-issuer.new.fields _ h bytes place c.content_if-name.ensures c.content_if-reasons.ensures c.content_if-issuer.ensures

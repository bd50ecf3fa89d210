-- The law of fields of DistributionPoint, written by tools/structures.py from declarations.asn1.
use Rattle.x509_der.specs.facts.ElementPlaces.{content_first}
use Rattle.x509_distribution_points.proofs.structures.laws.distribution_point_fields.Goals as goal

pub returns : goal.returns
returns g c = λ v string y a.
    let s = content_first 48 _ _ string y (c.fields.ensures v string y a).parts in
    let j0 = s.inner.parts in
    let j1 = j0.second.parts in
    record { content = s.content; bytes = s.bytes; distribution_point_bytes = j0.front; behind_distribution_point = j0.back; distribution_point_first = j0.bytes; distribution_point_at = j0.first.parts; reasons_bytes = j1.front; crl_issuer_bytes = j1.back; reasons_first = j1.bytes; reasons_at = j1.first.parts; crl_issuer_at = j1.second.parts }

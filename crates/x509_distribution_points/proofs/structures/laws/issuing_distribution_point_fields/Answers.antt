-- The law of fields of IssuingDistributionPoint, written by tools/structures.py from declarations.asn1.
use Rattle.x509_der.specs.facts.ElementPlaces.{content_first}
use Rattle.x509_distribution_points.proofs.structures.laws.issuing_distribution_point_fields.Goals as goal

pub returns : goal.returns
returns g c = λ v string y a.
    let s = content_first 48 _ _ string y (c.fields.ensures v string y a).parts in
    let j0 = s.inner.parts in
    let j1 = j0.second.parts in
    let j2 = j1.second.parts in
    let j3 = j2.second.parts in
    let j4 = j3.second.parts in
    record { content = s.content; bytes = s.bytes; distribution_point_bytes = j0.front; behind_distribution_point = j0.back; distribution_point_first = j0.bytes; distribution_point_at = j0.first.parts; only_contains_user_certs_bytes = j1.front; behind_only_contains_user_certs = j1.back; only_contains_user_certs_first = j1.bytes; only_contains_user_certs_at = j1.first.parts; only_contains_ca_certs_bytes = j2.front; behind_only_contains_ca_certs = j2.back; only_contains_ca_certs_first = j2.bytes; only_contains_ca_certs_at = j2.first.parts; only_some_reasons_bytes = j3.front; behind_only_some_reasons = j3.back; only_some_reasons_first = j3.bytes; only_some_reasons_at = j3.first.parts; indirect_crl_bytes = j4.front; only_contains_attribute_certs_bytes = j4.back; indirect_crl_first = j4.bytes; indirect_crl_at = j4.first.parts; only_contains_attribute_certs_at = j4.second.parts }

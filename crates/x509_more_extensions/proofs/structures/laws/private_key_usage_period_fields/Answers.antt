-- The law of fields of PrivateKeyUsagePeriod, written by tools/structures.py from declarations.asn1.
use Rattle.x509_der.specs.facts.ElementPlaces.{content_first}
use Rattle.x509_more_extensions.proofs.structures.laws.private_key_usage_period_fields.Goals as goal

pub returns : goal.returns
returns g c = λ v string y a.
    let s = content_first 48 _ _ string y (c.fields.ensures v string y a).parts in
    let j0 = s.inner.parts in
    record { content = s.content; bytes = s.bytes; not_before_bytes = j0.front; not_after_bytes = j0.back; not_before_first = j0.bytes; not_before_at = j0.first.parts; not_after_at = j0.second.parts }

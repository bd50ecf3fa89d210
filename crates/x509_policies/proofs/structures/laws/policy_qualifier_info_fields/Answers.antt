-- The law of fields of PolicyQualifierInfo, written by tools/structures.py from declarations.asn1.
use Rattle.x509_der.specs.facts.ElementPlaces.{content_first}
use Rattle.x509_policies.proofs.structures.laws.policy_qualifier_info_fields.Goals as goal

pub returns : goal.returns
returns g c = λ v string y a.
    let s = content_first 48 _ _ string y (c.fields.ensures v string y a).parts in
    let j0 = s.inner.parts in
    record { content = s.content; bytes = s.bytes; policy_qualifier_id_bytes = j0.front; qualifier_bytes = j0.back; policy_qualifier_id_first = j0.bytes; policy_qualifier_id_at = j0.first; qualifier_at = j0.second }

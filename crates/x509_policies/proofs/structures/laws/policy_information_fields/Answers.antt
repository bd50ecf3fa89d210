-- The law of fields of PolicyInformation, written by tools/structures.py from declarations.asn1.
use Rattle.x509_der.specs.facts.ElementPlaces.{content_first}
use Rattle.x509_policies.proofs.structures.laws.policy_information_fields.Goals as goal

pub returns : goal.returns
returns g c = λ v string y a.
    let s = content_first 48 _ _ string y (c.fields.ensures v string y a).parts in
    let j0 = s.inner.parts in
    record { content = s.content; bytes = s.bytes; policy_identifier_bytes = j0.front; policy_qualifiers_bytes = j0.back; policy_identifier_first = j0.bytes; policy_identifier_at = j0.first; policy_qualifiers_at = j0.second.parts }

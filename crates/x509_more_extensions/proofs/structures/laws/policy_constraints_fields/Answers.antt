-- The law of fields of PolicyConstraints, written by tools/structures.py from declarations.asn1.
use Rattle.x509_der.specs.facts.ElementPlaces.{content_first}
use Rattle.x509_more_extensions.proofs.structures.laws.policy_constraints_fields.Goals as goal

pub returns : goal.returns
returns g c = λ v string y a.
    let s = content_first 48 _ _ string y (c.fields.ensures v string y a).parts in
    let j0 = s.inner.parts in
    record { content = s.content; bytes = s.bytes; require_explicit_policy_bytes = j0.front; inhibit_policy_mapping_bytes = j0.back; require_explicit_policy_first = j0.bytes; require_explicit_policy_at = j0.first.parts; inhibit_policy_mapping_at = j0.second.parts }

-- The law of fields of PolicyMapping, written by tools/structures.py from declarations.asn1.
use Rattle.x509_der.specs.facts.ElementPlaces.{content_first}
use Rattle.x509_more_extensions.proofs.structures.laws.policy_mapping_fields.Goals as goal

pub returns : goal.returns
returns g c = λ v string y a.
    let s = content_first 48 _ _ string y (c.fields.ensures v string y a).parts in
    let j0 = s.inner.parts in
    record { content = s.content; bytes = s.bytes; issuer_domain_policy_bytes = j0.front; subject_domain_policy_bytes = j0.back; issuer_domain_policy_first = j0.bytes; issuer_domain_policy_at = j0.first; subject_domain_policy_at = j0.second }

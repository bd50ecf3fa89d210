-- The law of fields of NoticeReference, written by tools/structures.py from declarations.asn1.
use Rattle.x509_der.specs.facts.ElementPlaces.{content_first}
use Rattle.x509_policies.proofs.structures.laws.notice_reference_fields.Goals as goal

pub returns : goal.returns
returns g c = λ v string y a.
    let s = content_first 48 _ _ string y (c.fields.ensures v string y a).parts in
    let j0 = s.inner.parts in
    record { content = s.content; bytes = s.bytes; organization_bytes = j0.front; notice_numbers_bytes = j0.back; organization_first = j0.bytes; organization_at = j0.first; notice_numbers_at = j0.second }

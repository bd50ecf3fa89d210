-- The law of fields of UserNotice, written by tools/structures.py from declarations.asn1.
use Rattle.x509_der.specs.facts.ElementPlaces.{content_first}
use Rattle.x509_policies.proofs.structures.laws.user_notice_fields.Goals as goal

pub returns : goal.returns
returns g c = λ v string y a.
    let s = content_first 48 _ _ string y (c.fields.ensures v string y a).parts in
    let j0 = s.inner.parts in
    record { content = s.content; bytes = s.bytes; notice_ref_bytes = j0.front; explicit_text_bytes = j0.back; notice_ref_first = j0.bytes; notice_ref_at = j0.first.parts; explicit_text_at = j0.second.parts }

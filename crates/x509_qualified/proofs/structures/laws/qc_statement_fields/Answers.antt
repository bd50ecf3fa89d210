-- The law of fields of QcStatement, written by tools/structures.py from declarations.asn1.
use Rattle.x509_der.specs.facts.ElementPlaces.{content_first}
use Rattle.x509_qualified.proofs.structures.laws.qc_statement_fields.Goals as goal

pub returns : goal.returns
returns g c = λ v string y a.
    let s = content_first 48 _ _ string y (c.fields.ensures v string y a).parts in
    let j0 = s.inner.parts in
    record { content = s.content; bytes = s.bytes; statement_id_bytes = j0.front; statement_info_bytes = j0.back; statement_id_first = j0.bytes; statement_id_at = j0.first; statement_info_at = j0.second.parts }

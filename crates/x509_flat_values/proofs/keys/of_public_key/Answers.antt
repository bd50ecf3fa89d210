use Rattle.std.proofs.Common.{◌∙◌}
use Rattle.x509_der.specs.facts.Fields.{stands_whole}
use Rattle.x509_keys.specs.SubjectPublicKeyInfos.{subject_public_key_info}
use Rattle.x509_fields.specs.Spans.{FieldIn, all_of}
use Rattle.x509_flat.proofs.Fills.{from_start}
use Rattle.x509_flat_values.specs.Keys.{KeyTold, no_key}
use Rattle.x509_flat_values.proofs.Answering.{told, not_told}
use Rattle.x509_flat_values.proofs.keys.of_public_key.Goals as goal

pub returns-in-Ok : goal.returns-in-Ok
returns-in-Ok g c =
    let h = c.in-Ok.ensures in
    let w = h.1.whole in
    let there : FieldIn subject_public_key_info h.0 (all_of c.args.bytes.now) c.args.bytes.now h.1.tally = record {
      slice = c.args.bytes.now;
      at = (stands_whole subject_public_key_info c.spellings_are_lawful.ensures.lawful h.0 c.args.bytes.now h.1.tally w.spelled).field;
      end = from_start c.args.bytes.now;
    } in
    told subject_public_key_info c.args.bytes.now (λ v at. KeyTold c.args.bytes.now v at) no_key c.done.result.fields c.key_within.result c.done.result.status h.0 h.1.tally c.done.ensures.status c.done.ensures.fields w
    (c.key_within.ensures h.0 h.1.tally there)

pub returns-in-Err : goal.returns-in-Err
returns-in-Err g c =
    not_told subject_public_key_info c.args.bytes.now (λ v at. KeyTold c.args.bytes.now v at) no_key c.refused.result.fields c.refused.result.status c.in-Err.error c.in-Err.ensures c.refused.ensures.status (c.refused.ensures.fields ∙ c.none.ensures)

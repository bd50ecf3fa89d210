use Rattle.std.proofs.Common.{◌∙◌}
use Rattle.picky_asn1_x509.specs.Requests.{request}
use Rattle.x509_flat_values.specs.Keys.{KeyTold, no_key}
use Rattle.x509_flat_values.proofs.Answering.{told, not_told}
use Rattle.x509_flat_values.proofs.keys.of_request.Goals as goal

pub returns-in-Ok : goal.returns-in-Ok
returns-in-Ok g c =
    let h = c.in-Ok.ensures.ok in
    told request c.args.bytes.now (λ v at. KeyTold c.args.bytes.now v.certification_request_info.subject_public_key_info at) no_key c.done.result.fields c.key_within.result c.done.result.status h.value h.tally c.done.ensures.status c.done.ensures.fields h.whole
    (c.key_within.ensures h.value.certification_request_info.subject_public_key_info h.tally h.stand.fields.subject_public_key_info)

pub returns-in-Err : goal.returns-in-Err
returns-in-Err g c =
    not_told request c.args.bytes.now (λ v at. KeyTold c.args.bytes.now v.certification_request_info.subject_public_key_info at) no_key c.refused.result.fields c.refused.result.status c.in-Err.error c.in-Err.ensures.err c.refused.ensures.status (c.refused.ensures.fields ∙ c.none.ensures)
